use Rattle.ato_rational.specs.Rational.{power_ℚ}
use Rattle.ato_interval.proofs.FoldLaws.{even_power_bowl, odd_power_rises, risen, risen_holds, image_low, image_high, low_not_negative, ends_rise, ends_fall, folded_holds, folded_low, folded_high}
use Rattle.ato_interval.proofs.interval.Interval.pow.Goals as goal

pub folded-requires-clause-not_negative : goal.folded-requires-clause-not_negative
folded-requires-clause-not_negative g c =
    low_not_negative g.Q.Exact.value (λ x. power_ℚ x c.args.k) (record { low = c.self.inside.low; high = c.self.inside.high }) c.self.invariant _ _ c.in-Some.ensures.1 c.in-Some-power.ensures.1 (even_power_bowl _ c.requires.from_one c.if-k-eq0.true)

pub folded-requires-clause-rises : goal.folded-requires-clause-rises
folded-requires-clause-rises g c =
    rw (← c.self.view_is)
    (ends_rise g.Q.Exact.value (λ x. power_ℚ x c.args.k) _ c.self.invariant _ _ c.in-Some.ensures.1 c.in-Some-power.ensures.1 (even_power_bowl _ c.requires.from_one c.if-k-eq0.true))

pub folded-requires-clause-falls : goal.folded-requires-clause-falls
folded-requires-clause-falls g c =
    rw (← c.self.view_is)
    (ends_fall g.Q.Exact.value (λ x. power_ℚ x c.args.k) _ c.self.invariant _ _ c.in-Some.ensures.1 c.in-Some-power.ensures.1 (even_power_bowl _ c.requires.from_one c.if-k-eq0.true))

pub returns-then-k-eq0-clause-holds : goal.returns-then-k-eq0-clause-holds
returns-then-k-eq0-clause-holds g c =
    rw (← c.self.view_is)
    (folded_holds g.Q.Exact.value (λ x. power_ℚ x c.args.k) _ c.self.invariant _ _ c.in-Some.ensures.1 c.in-Some-power.ensures.1 (even_power_bowl _ c.requires.from_one c.if-k-eq0.true) _
    (rw (← c.self.view_is) at c.folded.ensures))

pub returns-then-k-eq0-clause-low_is : goal.returns-then-k-eq0-clause-low_is
returns-then-k-eq0-clause-low_is g c =
    rw (← c.self.view_is)
    (folded_low g.Q.Exact.value (λ x. power_ℚ x c.args.k) _ c.self.invariant _ _ c.in-Some.ensures.1 c.in-Some-power.ensures.1 (even_power_bowl _ c.requires.from_one c.if-k-eq0.true) _
    (rw (← c.self.view_is) at c.folded.ensures))

pub returns-then-k-eq0-clause-high_is : goal.returns-then-k-eq0-clause-high_is
returns-then-k-eq0-clause-high_is g c =
    rw (← c.self.view_is)
    (folded_high g.Q.Exact.value (λ x. power_ℚ x c.args.k) _ c.self.invariant _ _ c.in-Some.ensures.1 c.in-Some-power.ensures.1 (even_power_bowl _ c.requires.from_one c.if-k-eq0.true) _
    (rw (← c.self.view_is) at c.folded.ensures))

pub returns-else-k-eq0-clause-holds : goal.returns-else-k-eq0-clause-holds
returns-else-k-eq0-clause-holds g c =
    rw (← c.self.view_is)
    (risen_holds g.Q.Exact.value (λ x. power_ℚ x c.args.k) _ c.self.invariant _ _ c.in-Some.ensures.1 c.in-Some-power.ensures.1
    (odd_power_rises _ c.if-k-eq0.false))

pub returns-else-k-eq0-clause-low_is : goal.returns-else-k-eq0-clause-low_is
returns-else-k-eq0-clause-low_is g c =
    rw (← c.self.view_is)
    (image_low g.Q.Exact.value (λ x. power_ℚ x c.args.k) _ c.self.invariant _ _ c.in-Some.ensures.1 c.in-Some-power.ensures.1)

pub returns-else-k-eq0-clause-high_is : goal.returns-else-k-eq0-clause-high_is
returns-else-k-eq0-clause-high_is g c =
    rw (← c.self.view_is)
    (image_high g.Q.Exact.value (λ x. power_ℚ x c.args.k) _ c.self.invariant _ _ c.in-Some.ensures.1 c.in-Some-power.ensures.1)

pub invariant_of-result : goal.invariant_of-result
invariant_of-result g c =
    risen g.Q.Exact.value (λ x. power_ℚ x c.args.k) (record { low = c.self.inside.low; high = c.self.inside.high }) c.self.invariant _ _ c.in-Some.ensures.1 c.in-Some-power.ensures.1
    (odd_power_rises _ c.if-k-eq0.false)
