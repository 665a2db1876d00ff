use Rattle.ato_rational.proofs.Order.{≤ℚ_trans, <ℚ-≤ℚ}
use Rattle.ato_interval.proofs.PassLaws.{takes_left, takes_right}
use Rattle.ato_interval.proofs.SetLaws.{IsIn-none, from_first}
use Rattle.ato_interval.proofs.set.joining.take_lowest.Goals as goal

pub returns-then-at_most : goal.returns-then-at_most
returns-then-at_most g c =
    let e = c.in-Some-Some.ensures.cases.0 in
    let f = c.in-Some-Some.ensures'.cases.0 in
    rw e
    (takes_left g.Q.Exact.value _ _ _ (rw e at c.requires.left_rising) c.requires.right_rising (λ x m.
    ≤ℚ_trans
    (rw (c.low.ensures.end, c.low-in-Some-Some.ensures.end) at c.if-at_most.ensures)
    (from_first g.Q.Exact.value _ _ (rw f at c.requires.right_rising) x (rw f at m))))

pub returns-else-at_most : goal.returns-else-at_most
returns-else-at_most g c =
    let e = c.in-Some-Some.ensures.cases.0 in
    let f = c.in-Some-Some.ensures'.cases.0 in
    rw f
    (takes_right g.Q.Exact.value _ _ _ c.requires.left_rising (rw f at c.requires.right_rising) (λ x m.
    ≤ℚ_trans
    (<ℚ-≤ℚ (rw (c.low.ensures.end, c.low-in-Some-Some.ensures.end) at c.if-at_most.ensures))
    (from_first g.Q.Exact.value _ _ (rw e at c.requires.left_rising) x (rw e at m))))

pub returns-in-Some-None : goal.returns-in-Some-None
returns-in-Some-None g c =
    let e = c.in-Some-None.ensures.cases.0 in
    let none = c.in-Some-None.ensures'.cases in
    rw e
    (takes_left g.Q.Exact.value _ _ _ (rw e at c.requires.left_rising) c.requires.right_rising (λ x m.
    absurd (IsIn-none g.Q.Exact.value _ x none m)))

pub returns-in-None-Some : goal.returns-in-None-Some
returns-in-None-Some g c =
    let none = c.in-None-Some.ensures.cases in
    let f = c.in-None-Some.ensures'.cases.0 in
    rw f
    (takes_right g.Q.Exact.value _ _ _ c.requires.left_rising (rw f at c.requires.right_rising) (λ x m.
    absurd (IsIn-none g.Q.Exact.value _ x none m)))
