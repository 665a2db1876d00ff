use Rattle.std.proofs.Common.{◌≡◌, ◌++◌, List, map, take}
use Rattle.std.specs.List.{flat_map}
use Rattle.ato_files.specs.Meant.{AreMeanings}
use Rattle.ato_files.specs.Programs.{AreBlocks}
use Rattle.ato_instance_tree.specs.Kept.{located_of}
use Rattle.ato_instance_tree.specs.Types.{Located}
use Rattle.ato_elab.specs.Changes.{AreChanges}
use Rattle.ato_elab.specs.Waiting.{Waits, waits_in}
use Rattle.ato_elab.specs.Ways.{AreNews}
use Rattle.ato_elab.proofs.ways.Ways.read_all.Given as goal

abbrev pub invariant-loop-at : goal.invariant-loop-at
invariant-loop-at l =
    (AreBlocks l.fn.program.files l.fn.program.blocks → AreMeanings l.fn.program.files l.fn.meanings → (ls : List Located) → AreNews l.fn.program.files ls l.fn.self.news
    → AreNews l.fn.program.files (ls ++ map located_of (take l.at-index l.statements)) l.self.news)
    × (AreBlocks l.fn.program.files l.fn.program.blocks → AreMeanings l.fn.program.files l.fn.meanings → (ws : List Waits) → AreChanges ws l.fn.self.changes
    → AreChanges (ws ++ flat_map (waits_in l.fn.program.files) (map located_of (take l.at-index l.statements))) l.self.changes)
