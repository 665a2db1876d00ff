use Rattle.ato_rational.proofs.Order.{≤ℚ_trans}
use Rattle.ato_interval.proofs.OverlapLaws.{through_values}
use Rattle.ato_interval.proofs.interval.Interval.through.Goals as goal

pub invariant_of-result : goal.invariant_of-result
invariant_of-result g c = ≤ℚ_trans c.self.invariant c.greater-high.ensures.left

pub returns-clause-values : goal.returns-clause-values
returns-clause-values g c =
    rw (← c.self.view_is, ← c.o.view_is)
    (through_values g.Q.Exact.value _ _ _
    (rw (← c.self.view_is, ← c.o.view_is) at c.requires.begins)
    (rw (← c.self.view_is, ← c.o.view_is) at c.requires.touches)
    c.greater-high.ensures.left
    c.greater-high.ensures.right
    c.greater-high.ensures.one)

pub returns-clause-proper : goal.returns-clause-proper
returns-clause-proper g c = ≤ℚ_trans c.self.invariant c.greater-high.ensures.left
