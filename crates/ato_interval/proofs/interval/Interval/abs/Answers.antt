use Rattle.ato_rational.specs.Rational.{abs_ℚ}
use Rattle.ato_interval.proofs.FoldLaws.{abs_bowl, low_not_negative, ends_rise, ends_fall, folded_holds, folded_low, folded_high}
use Rattle.ato_interval.proofs.interval.Interval.abs.Goals as goal

pub folded-requires-clause-not_negative : goal.folded-requires-clause-not_negative
folded-requires-clause-not_negative g c =
    low_not_negative g.Q.Exact.value abs_ℚ (record { low = c.self.inside.low; high = c.self.inside.high }) c.self.invariant _ _ c.in-Some.ensures.1 c.in-Some-absolute.ensures.1 abs_bowl

pub folded-requires-clause-rises : goal.folded-requires-clause-rises
folded-requires-clause-rises g c =
    rw (← c.self.view_is)
    (ends_rise g.Q.Exact.value abs_ℚ _ c.self.invariant _ _ c.in-Some.ensures.1 c.in-Some-absolute.ensures.1 abs_bowl)

pub folded-requires-clause-falls : goal.folded-requires-clause-falls
folded-requires-clause-falls g c =
    rw (← c.self.view_is)
    (ends_fall g.Q.Exact.value abs_ℚ _ c.self.invariant _ _ c.in-Some.ensures.1 c.in-Some-absolute.ensures.1 abs_bowl)

pub returns-clause-holds : goal.returns-clause-holds
returns-clause-holds g c =
    rw (← c.self.view_is)
    (folded_holds g.Q.Exact.value abs_ℚ _ c.self.invariant _ _ c.in-Some.ensures.1 c.in-Some-absolute.ensures.1 abs_bowl _
    (rw (← c.self.view_is) at c.folded.ensures))

pub returns-clause-low_is : goal.returns-clause-low_is
returns-clause-low_is g c =
    rw (← c.self.view_is)
    (folded_low g.Q.Exact.value abs_ℚ _ c.self.invariant _ _ c.in-Some.ensures.1 c.in-Some-absolute.ensures.1 abs_bowl _
    (rw (← c.self.view_is) at c.folded.ensures))

pub returns-clause-high_is : goal.returns-clause-high_is
returns-clause-high_is g c =
    rw (← c.self.view_is)
    (folded_high g.Q.Exact.value abs_ℚ _ c.self.invariant _ _ c.in-Some.ensures.1 c.in-Some-absolute.ensures.1 abs_bowl _
    (rw (← c.self.view_is) at c.folded.ensures))
