use Rattle.std.proofs.Common.{◌≡◌, ℕ}
use Rattle.ato_instance_tree.specs.declared.tree.Tree.{Tree}
use Rattle.ato_netlists.specs.Known.{IsSound}
use Rattle.ato_netlists.specs.Parts.{AreParts, AreStrings}
use Rattle.ato_netlists.proofs.RowLaws.{IsSoFar}
use Rattle.ato_netlists.proofs.rows.rows.Given as goal

abbrev pub invariant-loop-part : goal.invariant-loop-part
invariant-loop-part l = (tree : Tree) (entry : ℕ) → IsSound l.ground.program.now tree entry → l.ground.nodes.now ≡ tree.nodes → AreStrings l.ground.program.now entry l.ground.strings.now
    → AreParts l.ground.program.now entry l.parts → IsSoFar l.ground.program.now entry l.part-index l.rows l.designators
