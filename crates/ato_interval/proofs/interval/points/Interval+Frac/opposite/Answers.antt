use Rattle.ato_interval.proofs.PointLaws.{opposite_proper, opposite_holds, opposite_low, opposite_high}
use Rattle.ato_interval.proofs.interval.points.Interval+Frac.opposite.Goals as goal

pub returns-clause-holds : goal.returns-clause-holds
returns-clause-holds c =
    rw (← c.self.view_is)
    (opposite_holds (record { low = c.self.inside.low; high = c.self.inside.high }) c.self.invariant c.opposite-low.result c.opposite-high.result c.opposite-low.ensures.value c.opposite-high.ensures.value)

pub returns-clause-low_is : goal.returns-clause-low_is
returns-clause-low_is c =
    rw (← c.self.view_is)
    (opposite_low (record { low = c.self.inside.low; high = c.self.inside.high }) c.self.invariant c.opposite-low.result c.opposite-high.result c.opposite-low.ensures.value c.opposite-high.ensures.value)

pub returns-clause-high_is : goal.returns-clause-high_is
returns-clause-high_is c =
    rw (← c.self.view_is)
    (opposite_high (record { low = c.self.inside.low; high = c.self.inside.high }) c.self.invariant c.opposite-low.result c.opposite-high.result c.opposite-low.ensures.value c.opposite-high.ensures.value)

pub invariant_of-result : goal.invariant_of-result
invariant_of-result c =
    opposite_proper (record { low = c.self.inside.low; high = c.self.inside.high }) c.self.invariant c.opposite-low.result c.opposite-high.result c.opposite-low.ensures.value c.opposite-high.ensures.value
