use Rattle.std.proofs.Common.{◌≡◌, ◌++◌, List, map, take}
use Rattle.ato_elab.specs.Changes.{AreChanges, seen}
use Rattle.ato_elab.specs.Waiting.{Waits}
use Rattle.ato_elab.proofs.ways.Ways.pass.Given as goal

abbrev pub invariant-loop-change : goal.invariant-loop-change
invariant-loop-change l = (l.self.news ≡ l.fn.self.news)
    × ((ws : List Waits) → AreChanges ws l.fn.self.changes → AreChanges (ws ++ map seen (take l.change-index l.from)) l.self.changes)
