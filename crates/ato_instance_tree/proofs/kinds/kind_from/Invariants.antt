use Rattle.std.proofs.Common.{◌≡◌, take}
use Rattle.ato_files.specs.Programs.{AreBlocks}
use Rattle.ato_instance_tree.specs.Kinds.{kind_from}
use Rattle.ato_instance_tree.proofs.kinds.kind_from.Given as goal

abbrev pub invariant-loop-number : goal.invariant-loop-number
invariant-loop-number l = AreBlocks l.program.files l.program.blocks → l.kind ≡ kind_from l.program.files l.fn.above (take l.number-index l.numbers)
