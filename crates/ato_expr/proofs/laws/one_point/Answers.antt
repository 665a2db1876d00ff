use Rattle.ato_expr.proofs.OnceLaws.{comes_once}
use Rattle.ato_expr.proofs.laws.one_point.Goals as goal

pub returns : goal.returns
returns c = λ table world node p q h g. comes_once table world node p q h g
