use Rattle.std.proofs.Common.{◌≡◌, ◌++◌, take}
use Rattle.ato_files.proofs.file_names.push_names.Given as goal

abbrev pub invariant-loop-name : goal.invariant-loop-name
invariant-loop-name l = l.out ≡ l.fn.out ++ take l.name-index l.names
