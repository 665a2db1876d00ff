use Rattle.std.proofs.Common.{◌≡◌, ◌<◌, ℕ, Some, true}
use Rattle.std.specs.Prelude.{slice_get}
use Rattle.ato_files.specs.Programs.{AreBlocks}
use Rattle.ato_instance_tree.specs.declared.tree.Node.{Node}
use Rattle.ato_elab.specs.Pins.{is_met, AreHeld}
use Rattle.ato_elab.proofs.finding_pins.Pins.of.Given as goal

abbrev pub invariant-loop-node : goal.invariant-loop-node
invariant-loop-node l = record {
  held : AreBlocks l.program.files l.program.blocks → AreHeld l.program.files l.gathering;
  met : (number type : ℕ) (n : Node) → number < l.node-index → slice_get l.nodes number ≡ Some n → n.block ≡ Some type → is_met l.gathering type ≡ true;
}
