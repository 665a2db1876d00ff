use Rattle.ato_units.proofs.Cutting.{end_cons}
use Rattle.ato_units.proofs.tokens.front_token.Goals as goal

pub front_word-requires : goal.front_word-requires
front_word-requires c = end_cons _ _ _ c.in_ok-first.ensures.cut
