use Rattle.std.proofs.Common.{◌≡◌, ◌++◌, map, take}
use Rattle.std.specs.List.{flat_map}
use Rattle.ato_files.specs.Programs.{AreBlocks}
use Rattle.ato_instance_tree.specs.Kept.{located_of}
use Rattle.ato_instance_tree.specs.Types.{located}
use Rattle.ato_instance_tree.proofs.type_stmts.push_blocks.Given as goal

abbrev pub invariant-loop-number : goal.invariant-loop-number
invariant-loop-number l = AreBlocks l.program.files l.program.blocks → map located_of l.found ≡ map located_of l.fn.found ++ flat_map (located l.program.files) (take l.number-index l.numbers)
