use Rattle.ato_lexer.proofs.ReadingLaws.{fewer_bytes}
use Rattle.ato_lexer.proofs.pieces.end_of.Goals as goal

pub returns-clause-shorter : goal.returns-clause-shorter
returns-clause-shorter c = fewer_bytes _ _ c.utf8.text c.utf8.rest c.requires
