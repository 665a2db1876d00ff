use Rattle.ato_rational.proofs.Order.{<ℚ-≤ℚ}
use Rattle.ato_interval.proofs.PassLaws.{drops_left, drops_right}
use Rattle.ato_interval.proofs.set.meeting.put_common.Goals as goal

pub pairs-preserved-then-at_most : goal.pairs-preserved-then-at_most
pairs-preserved-then-at_most g c =
    let e = c.in-Some-Some.ensures.cases.0 in
    let f = c.in-Some-Some.ensures'.cases.0 in
    rw f
    (drops_left g.Q.Exact.value _ _ _ _ _ _ _ _ (rw (e, f) at c.pairs.invariant)
    c.in_ok-put_common_part.ensures.rising
    c.in_ok-put_common_part.ensures.values
    (rw (c.high.ensures.end, c.high-in-Some-Some.ensures.end) at c.if-at_most.ensures))

pub pairs-preserved : goal.pairs-preserved
pairs-preserved g c =
    let e = c.in-Some-Some.ensures.cases.0 in
    let f = c.in-Some-Some.ensures'.cases.0 in
    rw e
    (drops_right g.Q.Exact.value _ _ _ _ _ _ _ _ (rw (e, f) at c.pairs.invariant)
    c.in_ok-put_common_part.ensures.rising
    c.in_ok-put_common_part.ensures.values
    (<ℚ-≤ℚ (rw (c.high.ensures.end, c.high-in-Some-Some.ensures.end) at c.if-at_most.ensures)))
