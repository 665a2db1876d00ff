use Rattle.std.proofs.Common.{◌≡◌, take}
use Rattle.std.specs.Prelude.{map}
use Rattle.ato_files.specs.Blocks.{blocks_of}
use Rattle.ato_files.specs.Inherited.{block_members}
use Rattle.ato_files.proofs.name_faults.all_members.Given as goal

abbrev pub invariant-loop-place : goal.invariant-loop-place
invariant-loop-place l = l.members ≡ map block_members (take l.place-index (blocks_of l.files))
