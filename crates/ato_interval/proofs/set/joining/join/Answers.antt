use Rattle.std.proofs.Common.{inl}
use Rattle.ato_interval.proofs.PassLaws.{widens, closes, joined_values, joined_rising}
use Rattle.ato_interval.proofs.ResultLaws.{low_held}
use Rattle.ato_interval.proofs.set.joining.join.Goals as goal

pub through-current-requires-clause-begins : goal.through-current-requires-clause-begins
through-current-requires-clause-begins g c =
    let taken = c.in-Some-take_lowest.ensures in
    c.taken.invariant.to_come _ ((taken.values _).1 (inl (low_held g.Q.Exact.value _ taken.proper)))

pub taken-preserved-then-at_most : goal.taken-preserved-then-at_most
taken-preserved-then-at_most g c =
    widens g.Q.Exact.value _ _ _ _ _ _ _ _ _ c.taken.invariant c.in-Some-take_lowest.ensures _
    c.through-current.ensures.low
    c.through-current.ensures.proper
    c.through-current.ensures.values

pub taken-preserved : goal.taken-preserved
taken-preserved g c =
    rw c.in_ok-push.ensures.ok
    (closes g.Q.Exact.value _ _ _ _ _ _ _ _ _ c.taken.invariant c.in-Some-take_lowest.ensures
    (rw (c.low.ensures.end, c.high.ensures.end) at c.if-at_most.ensures))

pub returns-clause-values : goal.returns-clause-values
returns-clause-values g c =
    rw c.in_ok-push-2.ensures.ok
    (joined_values g.Q.Exact.value _ _ _ _ _ _ c.taken.invariant c.in_default-take_lowest.ensures)

pub returns-clause-rising : goal.returns-clause-rising
returns-clause-rising g c =
    rw c.in_ok-push-2.ensures.ok (joined_rising g.Q.Exact.value _ _ _ _ _ _ c.taken.invariant)
