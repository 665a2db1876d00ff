use Rattle.std.proofs.Common.{⊎_elim, inl, inr}
use Rattle.ato_rational.specs.Rational.{◌+ℚ◌, ◌-ℚ◌, ◌*ℚ◌, ◌/ℚ◌, min_ℚ, max_ℚ}
use Rattle.ato_interval.specs.Points.{point}
use Rattle.ato_interval.proofs.CornerLaws.{at_corners, sum_bounds, difference_bounds, product_bounds, quotient_bounds, min_bounds, max_bounds}
use Rattle.ato_interval.proofs.PointLaws.{exact_on, absolute_exact, power_exact, there_at_points}
use Rattle.ato_interval.proofs.laws.operations_on_points.Goals as goal

pub returns-clause-sums : goal.returns-clause-sums
returns-clause-sums g c = λ x y. exact_on g.Q.Exact.value g.met.Q.Exact.one_of_value ◌+ℚ◌ x y (at_corners g.Q.Exact.value ◌+ℚ◌ (point x) (point y) (sum_bounds _ _ _ _))

pub returns-clause-differences : goal.returns-clause-differences
returns-clause-differences g c = λ x y. exact_on g.Q.Exact.value g.met.Q.Exact.one_of_value ◌-ℚ◌ x y (at_corners g.Q.Exact.value ◌-ℚ◌ (point x) (point y) (difference_bounds _ _ _ _))

pub returns-clause-products : goal.returns-clause-products
returns-clause-products g c = λ x y. exact_on g.Q.Exact.value g.met.Q.Exact.one_of_value ◌*ℚ◌ x y (at_corners g.Q.Exact.value ◌*ℚ◌ (point x) (point y) (product_bounds _ _ _ _))

pub returns-clause-quotients : goal.returns-clause-quotients
returns-clause-quotients g c = λ x y s. exact_on g.Q.Exact.value g.met.Q.Exact.one_of_value ◌/ℚ◌ x y (at_corners g.Q.Exact.value ◌/ℚ◌ (point x) (point y) (quotient_bounds _ _ _ _ s))

pub returns-clause-lesser : goal.returns-clause-lesser
returns-clause-lesser g c = λ x y. exact_on g.Q.Exact.value g.met.Q.Exact.one_of_value min_ℚ x y (at_corners g.Q.Exact.value min_ℚ (point x) (point y) (min_bounds _ _ _ _))

pub returns-clause-greater : goal.returns-clause-greater
returns-clause-greater g c = λ x y. exact_on g.Q.Exact.value g.met.Q.Exact.one_of_value max_ℚ x y (at_corners g.Q.Exact.value max_ℚ (point x) (point y) (max_bounds _ _ _ _))

pub returns-clause-absolute : goal.returns-clause-absolute
returns-clause-absolute g c = absolute_exact g.Q.Exact.value g.met.Q.Exact.one_of_value

pub returns-clause-powers : goal.returns-clause-powers
returns-clause-powers g c = power_exact g.Q.Exact.value g.met.Q.Exact.one_of_value

pub returns-clause-products_there : goal.returns-clause-products_there
returns-clause-products_there g c = there_at_points g.Q.Exact.can_multiply

pub returns-clause-quotients_there : goal.returns-clause-quotients_there
returns-clause-quotients_there g c = there_at_points g.Q.Divides.can_divide
