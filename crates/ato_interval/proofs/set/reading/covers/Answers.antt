use Rattle.ato_interval.proofs.PassLaws.{begins_below, covers_told}
use Rattle.ato_interval.proofs.ResultLaws.{low_held}
use Rattle.ato_interval.proofs.SetLaws.{IsIn-none}
use Rattle.ato_interval.proofs.set.reading.covers.Goals as goal

pub returns-then-at_most : goal.returns-then-at_most
returns-then-at_most g c =
    let e = c.in-Some.ensures.cases.0 in
    rw e
    (covers_told g.Q.Exact.value c.at_most-then-at_most.result _ _ _
    (rw e at c.requires.rising)
    (rw e at c.requires.reaches)
    (rw (c.low.ensures.end, c.low-low.ensures.end) at c.if-at_most.ensures)
    (rw (c.high.ensures.end, c.high-high.ensures.end) at c.at_most-then-at_most.ensures))

pub returns-else-at_most : goal.returns-else-at_most
returns-else-at_most g c =
    let e = c.in-Some.ensures.cases.0 in
    rw (c.if-at_most.false, e)
    (begins_below g.Q.Exact.value _ _ _
    (rw e at c.requires.rising)
    c.low-low.ensures.proper
    (rw (c.low.ensures.end, c.low-low.ensures.end) at c.if-at_most.ensures))

pub returns-in-None : goal.returns-in-None
returns-in-None g c = (
  g.Q.Exact.value c.args.part.now.low,
  low_held g.Q.Exact.value _ c.low-low.ensures.proper,
  IsIn-none g.Q.Exact.value _ _ c.in-None.ensures.cases,
)
