use Rattle.ato_interval.proofs.PassLaws.{compares, escapes}
use Rattle.ato_interval.proofs.set.IntervalSet.subset.Goals as goal

pub returns-then-not-covers : goal.returns-then-not-covers
returns-then-not-covers g c =
    escapes g.Q.Exact.value _ _ _ _ _ _ (rw c.in-Some.ensures.cases.0 at c.parts.invariant)
    c.from_height-right.ensures.rising
    c.from_height-right.ensures.within
    (rw c.low.ensures.end at c.from_height-right.ensures.kept)
    c.if-not-covers.ensures

pub parts-preserved : goal.parts-preserved
parts-preserved g c =
    compares g.Q.Exact.value _ _ _ _ _ _ (rw c.in-Some.ensures.cases.0 at c.parts.invariant)
    c.from_height-right.ensures.rising
    c.from_height-right.ensures.within
    (rw c.low.ensures.end at c.from_height-right.ensures.kept)
    c.if-not-covers.ensures
