use Rattle.std.proofs.Common.{◌≡◌, take}
use Rattle.std.specs.List.{flat_map}
use Rattle.ato_files.specs.Noted.{noted}
use Rattle.ato_files.specs.NameFaults.{unknown}
use Rattle.ato_files.proofs.block_types.note_types.Given as goal

abbrev pub invariant-loop-of : goal.invariant-loop-of
invariant-loop-of l = l.least ≡ noted l.fn.least (flat_map (unknown l.tables.files.now l.file) (take l.of-index l.types))
