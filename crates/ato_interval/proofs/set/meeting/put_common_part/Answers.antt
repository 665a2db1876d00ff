use Rattle.std.proofs.Common.{inl, inr, ⊎_elim}
use Rattle.ato_interval.proofs.ResultLaws.{low_held}
use Rattle.ato_interval.proofs.SetLaws.{IsIn-push, IsIn-pushed, AreRising-push}
use Rattle.ato_interval.proofs.set.meeting.put_common_part.Goals as goal

pub returns-in_ok-push-clause-values : goal.returns-in_ok-push-clause-values
returns-in_ok-push-clause-values g c =
    rw c.in_ok-push.ensures.ok (λ x. (
      λ m. ⊎_elim inl (λ w. inr ((c.in-Some.ensures.1 x).0 w)) (IsIn-pushed g.Q.Exact.value _ _ x m),
      λ a. IsIn-push g.Q.Exact.value _ _ x (⊎_elim inl (λ both. inr ((c.in-Some.ensures.1 x).1 both)) a),
    ))

pub returns-in_ok-push-clause-rising : goal.returns-in_ok-push-clause-rising
returns-in_ok-push-clause-rising g c =
    rw c.in_ok-push.ensures.ok
    (AreRising-push g.Q.Exact.value _ _ c.requires.rising c.in-Some.ensures.0 (λ x m.
    let held = (c.in-Some.ensures.1 _).0 (low_held g.Q.Exact.value _ c.in-Some.ensures.0) in
    c.requires.below x _ m held.0 held.1))
