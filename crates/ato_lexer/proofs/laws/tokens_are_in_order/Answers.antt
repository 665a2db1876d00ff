use Rattle.ato_lexer.proofs.OrderLaws.{tokens_in_order}
use Rattle.ato_lexer.proofs.laws.tokens_are_in_order.Goals as goal

pub returns : goal.returns
returns c = tokens_in_order
