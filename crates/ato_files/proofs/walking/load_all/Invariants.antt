use Rattle.std.proofs.Common.{◌≡◌, ◌-◌, ℕ, List, length, drop}
use Rattle.ato_outside.specs.Replies.{Asks}
use Rattle.ato_files.specs.LoadSteps.{HasWalk, IsBegun}
use Rattle.ato_files.specs.Loading.{most_bytes}
use Rattle.ato_files.specs.Replies.{replies_of}
use Rattle.ato_files.proofs.walking.load_all.Given as goal

abbrev pub invariant-loop-name : goal.invariant-loop-name
invariant-loop-name g l = record {
  same : g.S.Shelf.files l.shelf ≡ g.S.Shelf.files l.fn.shelf;
  walk : (entry : List ℕ) → IsBegun entry l.fn.walk → HasWalk (g.S.Shelf.files l.fn.shelf) entry l.walk;
  asks : Asks g.S.Shelf.gets most_bytes l.fn.shelf (replies_of (drop 1 l.walk.files)) l.shelf;
  faults : g.S.Shelf.faults l.shelf ≡ g.S.Shelf.faults l.fn.shelf;
  misses : g.S.Shelf.misses l.shelf ≡ g.S.Shelf.misses l.fn.shelf;
}

abbrev pub decreases-loop-name : goal.decreases-loop-name
decreases-loop-name g l = 257 - length l.walk.files
