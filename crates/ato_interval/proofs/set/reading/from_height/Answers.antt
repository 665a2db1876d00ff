use Rattle.ato_interval.proofs.PassLaws.{skips}
use Rattle.ato_interval.proofs.set.reading.from_height.Goals as goal

pub rest-preserved : goal.rest-preserved
rest-preserved g c =
    skips g.Q.Exact.value _ _ _ _ (rw c.in-Some.ensures.cases.0 at c.rest.invariant) (rw c.high.ensures.end at c.if-at_most.ensures)
