use Rattle.std.proofs.Common.{ℕ}
use Rattle.ato_rational.specs.Rational.{ℚ}
use Rattle.ato_expr.specs.Values.{GivesValue, HasValue}
use Rattle.ato_expr.proofs.LabelLaws.{label_below}
use Rattle.ato_expr.proofs.ValueLaws.{one_root}
use Rattle.ato_expr.proofs.laws.values_all_the_way_down.Goals as goal

pub returns : goal.returns
returns c = λ table point node x h k b. label_below (GivesValue point) table (one_root (λ (n : ℕ). (y : ℚ) × HasValue table point n y) node (x, h)) b
