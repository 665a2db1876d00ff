use Rattle.std.proofs.Common.{◌≡◌, ℕ, List, None, take}
use Rattle.std.specs.Prelude.{fold}
use Rattle.ato_files.specs.Programs.{AreBlocks}
use Rattle.ato_netlists.specs.Entries.{held_behind}
use Rattle.ato_netlists.specs.Parts.{held}
use Rattle.ato_netlists.proofs.strings.Strings.of.Given as goal

abbrev pub invariant-loop-entry : goal.invariant-loop-entry
invariant-loop-entry l = AreBlocks l.program.files l.program.blocks → (number : ℕ) (word : List ℕ)
    → held l.strings number word ≡ fold (held_behind l.program l.tree number word) None (take l.entry-index l.tree.effective)
