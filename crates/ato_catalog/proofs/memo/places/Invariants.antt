use Rattle.ato_catalog.specs.Memos.{AreKept}
use Rattle.ato_catalog.proofs.memo.places.Given as goal

abbrev pub invariant-loop : goal.invariant-loop
invariant-loop l = AreKept l.places.items
