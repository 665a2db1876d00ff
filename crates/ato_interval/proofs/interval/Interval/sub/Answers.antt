use Rattle.ato_rational.specs.Rational.{◌-ℚ◌}
use Rattle.ato_rational.proofs.Order.{+ℚ_given_mono, neg_ℚ_anti}
use Rattle.ato_rational.proofs.Ends.{difference_within}
use Rattle.ato_interval.proofs.ResultLaws.{ends_same, low_high, high_low}
use Rattle.ato_interval.proofs.interval.Interval.sub.Goals as goal

pub returns-clause-holds : goal.returns-clause-holds
returns-clause-holds g c =
    rw (← c.self.view_is, ← c.o.view_is) (λ x y v w. ends_same c.in-Some.ensures.1 c.in-Some-minus.ensures.1 (difference_within _ _ _ _ x y v w))

pub returns-clause-low_is : goal.returns-clause-low_is
returns-clause-low_is g c =
    rw (← c.self.view_is, ← c.o.view_is) (low_high g.Q.Exact.value ◌-ℚ◌ _ _ c.self.invariant c.o.invariant _ c.in-Some.ensures.1)

pub returns-clause-high_is : goal.returns-clause-high_is
returns-clause-high_is g c =
    rw (← c.self.view_is, ← c.o.view_is) (high_low g.Q.Exact.value ◌-ℚ◌ _ _ c.self.invariant c.o.invariant _ c.in-Some-minus.ensures.1)

pub invariant_of-result : goal.invariant_of-result
invariant_of-result g c =
    +ℚ_given_mono _ _ _ _ _ _ c.self.invariant (neg_ℚ_anti c.o.invariant) c.in-Some.ensures.1 c.in-Some-minus.ensures.1
