use Rattle.std.proofs.Common.{◌≡◌, take}
use Rattle.std.specs.List.{flat_map}
use Rattle.ato_files.specs.Blocks.{blocks_of}
use Rattle.ato_files.specs.Lists.{numbered}
use Rattle.ato_files.specs.NameFaults.{block_faults}
use Rattle.ato_files.specs.Noted.{noted}
use Rattle.ato_files.proofs.name_faults.note_blocks.Given as goal

abbrev pub invariant-loop-number : goal.invariant-loop-number
invariant-loop-number l = l.least ≡ noted l.fn.least (flat_map (λ b. block_faults l.tables.files.now b.0 b.1) (numbered 0 (take l.number (blocks_of l.tables.files.now))))
