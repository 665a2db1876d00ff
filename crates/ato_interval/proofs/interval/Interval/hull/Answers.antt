use Rattle.ato_rational.proofs.Order.{≤ℚ_trans}
use Rattle.ato_interval.proofs.interval.Interval.hull.Goals as goal

pub returns-clause-own : goal.returns-clause-own
returns-clause-own g c = rw (← c.self.view_is) (λ x w. record { above = ≤ℚ_trans c.lesser-low.ensures.left w.above; below = ≤ℚ_trans w.below c.greater-high.ensures.left })

pub returns-clause-other : goal.returns-clause-other
returns-clause-other g c = rw (← c.o.view_is) (λ x w. record { above = ≤ℚ_trans c.lesser-low.ensures.right w.above; below = ≤ℚ_trans w.below c.greater-high.ensures.right })

pub invariant_of-result : goal.invariant_of-result
invariant_of-result g c = ≤ℚ_trans c.lesser-low.ensures.left (≤ℚ_trans c.self.invariant c.greater-high.ensures.left)
