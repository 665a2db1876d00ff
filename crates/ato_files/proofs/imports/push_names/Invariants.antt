use Rattle.std.proofs.Common.{◌≡◌, ◌++◌, take}
use Rattle.ato_files.specs.Imports.{names_from}
use Rattle.ato_files.proofs.imports.push_names.Given as goal

abbrev pub invariant-loop-name : goal.invariant-loop-name
invariant-loop-name l = l.imports ≡ l.fn.imports ++ names_from l.from (take l.name-index l.names)
