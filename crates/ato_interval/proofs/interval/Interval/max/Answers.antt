use Rattle.ato_rational.specs.Rational.{max_ℚ}
use Rattle.ato_rational.proofs.Order.{≤ℚ_trans, ≈ℚ-≤ℚ, ≈ℚ_sym}
use Rattle.ato_rational.proofs.Extremes.{max_ℚ_mono}
use Rattle.ato_rational.proofs.Ends.{max_within}
use Rattle.ato_interval.proofs.ResultLaws.{ends_same, greater_is, low_low, high_high}
use Rattle.ato_interval.proofs.interval.Interval.max.Goals as goal

pub invariant_of-result : goal.invariant_of-result
invariant_of-result g c =
    let at_low = greater_is g.Q.Exact.value _ _ _ c.greater-low.ensures.left c.greater-low.ensures.right c.greater-low.ensures.one in
    let at_high = greater_is g.Q.Exact.value _ _ _ c.greater-high.ensures.left c.greater-high.ensures.right c.greater-high.ensures.one in
    ≤ℚ_trans (≈ℚ-≤ℚ at_low) (≤ℚ_trans (max_ℚ_mono _ _ _ _ c.self.invariant c.o.invariant) (≈ℚ-≤ℚ (≈ℚ_sym at_high)))

pub returns-clause-holds : goal.returns-clause-holds
returns-clause-holds g c =
    rw (← c.self.view_is, ← c.o.view_is) (λ x y v w. ends_same
    (greater_is g.Q.Exact.value _ _ _ c.greater-low.ensures.left c.greater-low.ensures.right c.greater-low.ensures.one)
    (greater_is g.Q.Exact.value _ _ _ c.greater-high.ensures.left c.greater-high.ensures.right c.greater-high.ensures.one)
    (max_within _ _ _ _ x y v w))

pub returns-clause-low_is : goal.returns-clause-low_is
returns-clause-low_is g c =
    rw (← c.self.view_is, ← c.o.view_is) (low_low g.Q.Exact.value max_ℚ _ _ c.self.invariant c.o.invariant _
    (greater_is g.Q.Exact.value _ _ _ c.greater-low.ensures.left c.greater-low.ensures.right c.greater-low.ensures.one))

pub returns-clause-high_is : goal.returns-clause-high_is
returns-clause-high_is g c =
    rw (← c.self.view_is, ← c.o.view_is) (high_high g.Q.Exact.value max_ℚ _ _ c.self.invariant c.o.invariant _
    (greater_is g.Q.Exact.value _ _ _ c.greater-high.ensures.left c.greater-high.ensures.right c.greater-high.ensures.one))
