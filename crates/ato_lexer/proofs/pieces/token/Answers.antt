use Rattle.ato_units.proofs.Cutting.{end_cons}
use Rattle.ato_lexer.proofs.pieces.token.Goals as goal

pub word-requires : goal.word-requires
word-requires c = end_cons _ _ _ c.requires
