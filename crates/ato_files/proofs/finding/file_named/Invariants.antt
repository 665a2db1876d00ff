use Rattle.std.proofs.Common.{◌≡◌, None, take}
use Rattle.ato_files.specs.FileMaps.{number_behind}
use Rattle.ato_files.proofs.finding.file_named.Given as goal

abbrev pub invariant-loop-number : goal.invariant-loop-number
invariant-loop-number l = number_behind (take l.number l.files) l.text ≡ None
