use Rattle.ato_interval.proofs.PassLaws.{finds}
use Rattle.ato_interval.proofs.set.IntervalSet.holds.Goals as goal

pub returns-in-Some : goal.returns-in-Some
returns-in-Some g c =
    let e = c.in-Some.ensures.cases.0 in
    finds g.Q.Exact.value c.at_most.result _ _ _ _
    (rw e at c.from_height.ensures.rising)
    (rw e at c.from_height.ensures.reaches)
    (rw (e, c.parts.ensures.parts) at c.from_height.ensures.within)
    (rw (e, c.parts.ensures.parts) at c.from_height.ensures.kept)
    (rw c.low.ensures.end at c.at_most.ensures)
