use Rattle.ato_interval.proofs.TargetLaws.{passes_stop, passes_told}
use Rattle.ato_interval.proofs.interval.Interval.is_covered_by.Goals as goal

pub returns-then-not-goes_on : goal.returns-then-not-goes_on
returns-then-not-goes_on g c =
    passes_stop g.Q.Exact.value _ _ c.in-Some.range.now c.in-Some.later.now c.args.ranges.now
    (rw c.in-Some.ensures.cases.0 at c.rest.invariant)
    c.if-has_end_of.ensures
    c.if-not-goes_on.ensures

pub returns : goal.returns
returns g c =
    passes_told g.Q.Exact.value c.is_in_one.result _ _ c.rest.rest.now c.args.ranges.now
    c.in_default.ensures.cases
    c.rest.invariant
    c.low-low.ensures.proper
    (rw c.low-low.ensures.end at c.is_in_one.ensures)
