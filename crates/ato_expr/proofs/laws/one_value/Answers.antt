use Rattle.ato_expr.proofs.ValueLaws.{value_once}
use Rattle.ato_expr.proofs.laws.one_value.Goals as goal

pub returns : goal.returns
returns c = λ table point node x y h g. value_once table point h g
