use Rattle.ato_rational.specs.Rational.{min_ℚ}
use Rattle.ato_rational.proofs.Order.{≤ℚ_trans, ≈ℚ-≤ℚ, ≈ℚ_sym}
use Rattle.ato_rational.proofs.Extremes.{min_ℚ_mono}
use Rattle.ato_rational.proofs.Ends.{min_within}
use Rattle.ato_interval.proofs.ResultLaws.{ends_same, lesser_is, low_low, high_high}
use Rattle.ato_interval.proofs.interval.Interval.min.Goals as goal

pub invariant_of-result : goal.invariant_of-result
invariant_of-result g c =
    let at_low = lesser_is g.Q.Exact.value _ _ _ c.lesser-low.ensures.left c.lesser-low.ensures.right c.lesser-low.ensures.one in
    let at_high = lesser_is g.Q.Exact.value _ _ _ c.lesser-high.ensures.left c.lesser-high.ensures.right c.lesser-high.ensures.one in
    ≤ℚ_trans (≈ℚ-≤ℚ at_low) (≤ℚ_trans (min_ℚ_mono _ _ _ _ c.self.invariant c.o.invariant) (≈ℚ-≤ℚ (≈ℚ_sym at_high)))

pub returns-clause-holds : goal.returns-clause-holds
returns-clause-holds g c =
    rw (← c.self.view_is, ← c.o.view_is) (λ x y v w. ends_same
    (lesser_is g.Q.Exact.value _ _ _ c.lesser-low.ensures.left c.lesser-low.ensures.right c.lesser-low.ensures.one)
    (lesser_is g.Q.Exact.value _ _ _ c.lesser-high.ensures.left c.lesser-high.ensures.right c.lesser-high.ensures.one)
    (min_within _ _ _ _ x y v w))

pub returns-clause-low_is : goal.returns-clause-low_is
returns-clause-low_is g c =
    rw (← c.self.view_is, ← c.o.view_is) (low_low g.Q.Exact.value min_ℚ _ _ c.self.invariant c.o.invariant _
    (lesser_is g.Q.Exact.value _ _ _ c.lesser-low.ensures.left c.lesser-low.ensures.right c.lesser-low.ensures.one))

pub returns-clause-high_is : goal.returns-clause-high_is
returns-clause-high_is g c =
    rw (← c.self.view_is, ← c.o.view_is) (high_high g.Q.Exact.value min_ℚ _ _ c.self.invariant c.o.invariant _
    (lesser_is g.Q.Exact.value _ _ _ c.lesser-high.ensures.left c.lesser-high.ensures.right c.lesser-high.ensures.one))
