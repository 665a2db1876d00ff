use Rattle.std.proofs.Common.{◌≡◌, take}
use Rattle.std.specs.List.{flat_map}
use Rattle.ato_files.specs.NameFaults.{file_faults}
use Rattle.ato_files.specs.Noted.{noted}
use Rattle.ato_files.proofs.file_faults.note_files.Given as goal

abbrev pub invariant-loop-number : goal.invariant-loop-number
invariant-loop-number l = l.least ≡ noted l.fn.least (flat_map (file_faults l.files) (take l.number l.files))
