use Rattle.std.proofs.Common.{subst, sym}
use Rattle.std.proofs.lemmas.Result.{IfOk-weaker}
use Rattle.ato_cert.specs.Problems.{AreRising}
use Rattle.ato_search.specs.Searching.{IsRefutation}
use Rattle.ato_search.proofs.SearchLemmas.{first_decides, tree_decides}
use Rattle.ato_search.proofs.searching.prove_slot.Goals as goal

pub refute-requires-clause-rising : goal.refute-requires-clause-rising
refute-requires-clause-rising c = subst AreRising (sym c.as_slice.ensures) c.requires.rising

pub returns-in-Some : goal.returns-in-Some
returns-in-Some c = IfOk-weaker c.built.result _ _ (λ proof e. rw e (first_decides c.args.slot.now c.in-Some.number c.requires c.in-Some.ensures)) c.built.ensures

pub returns-in_ok-refute-in-None : goal.returns-in_ok-refute-in-None
returns-in_ok-refute-in-None c =
    tree_decides c.args.slot.now c.in_ok-refute-in-None.field-0 c.requires
    (subst (λ rows. IsRefutation c.args.slot.now rows c.in_ok-refute-in-None.field-0) c.as_slice.ensures c.in_ok-refute-in-None.ensures)
