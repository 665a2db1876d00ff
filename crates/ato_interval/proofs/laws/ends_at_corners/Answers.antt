use Rattle.ato_rational.specs.Rational.{◌+ℚ◌, ◌-ℚ◌, ◌*ℚ◌, ◌/ℚ◌, min_ℚ, max_ℚ}
use Rattle.ato_interval.proofs.CornerLaws.{at_corners, sum_bounds, difference_bounds, product_bounds, quotient_bounds, min_bounds, max_bounds}
use Rattle.ato_interval.proofs.laws.ends_at_corners.Goals as goal

pub returns-clause-sums : goal.returns-clause-sums
returns-clause-sums g c = λ a b. at_corners g.Q.Exact.value ◌+ℚ◌ a b (sum_bounds _ _ _ _)

pub returns-clause-differences : goal.returns-clause-differences
returns-clause-differences g c = λ a b. at_corners g.Q.Exact.value ◌-ℚ◌ a b (difference_bounds _ _ _ _)

pub returns-clause-products : goal.returns-clause-products
returns-clause-products g c = λ a b. at_corners g.Q.Exact.value ◌*ℚ◌ a b (product_bounds _ _ _ _)

pub returns-clause-quotients : goal.returns-clause-quotients
returns-clause-quotients g c = λ a b s. at_corners g.Q.Exact.value ◌/ℚ◌ a b (quotient_bounds _ _ _ _ s)

pub returns-clause-lesser : goal.returns-clause-lesser
returns-clause-lesser g c = λ a b. at_corners g.Q.Exact.value min_ℚ a b (min_bounds _ _ _ _)

pub returns-clause-greater : goal.returns-clause-greater
returns-clause-greater g c = λ a b. at_corners g.Q.Exact.value max_ℚ a b (max_bounds _ _ _ _)
