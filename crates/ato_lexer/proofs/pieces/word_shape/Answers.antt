use Rattle.std.proofs.Common.{ap}
use Rattle.ato_lexer.specs.Pieces.{keyword_or_name}
use Rattle.ato_lexer.proofs.KeywordLemmas.{same_keyword}
use Rattle.ato_lexer.proofs.pieces.word_shape.Goals as goal

pub returns-in-None : goal.returns-in-None
returns-in-None c = ap keyword_or_name (same_keyword c.args.text.now c.as_bytes.result.now _ c.utf8.text c.as_bytes.ensures.value c.in-None.ensures)

pub returns-in-Some : goal.returns-in-Some
returns-in-Some c = ap keyword_or_name (same_keyword c.args.text.now c.as_bytes.result.now _ c.utf8.text c.as_bytes.ensures.value c.in-Some.ensures)
