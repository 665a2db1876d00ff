use Rattle.ato_interval.proofs.SetLaws.{hull_proper, hull_holds, first_in, last_in}
use Rattle.ato_interval.proofs.set.IntervalSet.hull.Goals as goal

pub up_to-requires : goal.up_to-requires
up_to-requires g c =
    let e = rw c.parts.ensures.parts at c.in_ok-first.ensures.cases.0 in
    let d = rw c.parts-2.ensures.parts at c.in_ok-last.ensures.cases.0 in
    hull_proper g.Q.Exact.value _ _ _ _ _ c.parts.ensures.rising e d

pub returns : goal.returns
returns g c =
    let e = rw c.parts.ensures.parts at c.in_ok-first.ensures.cases.0 in
    let d = rw c.parts-2.ensures.parts at c.in_ok-last.ensures.cases.0 in
    rw (c.up_to.ensures.low, c.up_to.ensures.high) (
      hull_holds g.Q.Exact.value _ _ _ _ _ c.parts.ensures.rising e d,
      first_in g.Q.Exact.value _ _ _ _ _ c.parts.ensures.rising e d,
      last_in g.Q.Exact.value _ _ _ _ _ c.parts.ensures.rising e d,
    )
