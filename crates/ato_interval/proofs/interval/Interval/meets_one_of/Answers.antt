use Rattle.ato_interval.proofs.TargetLaws.{met_here, met_later, met_nowhere}
use Rattle.ato_interval.proofs.interval.Interval.meets_one_of.Goals as goal

pub returns-then-meets_range : goal.returns-then-meets_range
returns-then-meets_range g c =
    met_here g.Q.Exact.value c.args.self.now c.in-Some.range.now c.in-Some.later.now c.args.ranges.now
    (rw c.in-Some.ensures.cases.0 at c.rest.invariant)
    c.if-meets_range.ensures

pub rest-preserved : goal.rest-preserved
rest-preserved g c =
    met_later g.Q.Exact.value c.args.self.now c.in-Some.range.now c.in-Some.later.now c.args.ranges.now
    (rw c.in-Some.ensures.cases.0 at c.rest.invariant)
    c.if-meets_range.ensures

pub returns : goal.returns
returns g c = met_nowhere g.Q.Exact.value c.args.self.now c.rest.rest.now c.args.ranges.now c.in_default.ensures.cases c.rest.invariant
