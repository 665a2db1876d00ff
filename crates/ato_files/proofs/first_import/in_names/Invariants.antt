use Rattle.std.proofs.Common.{◌≡◌, drop}
use Rattle.std.specs.Prelude.{find}
use Rattle.ato_files.specs.Finding.{is_of}
use Rattle.ato_files.specs.Imports.{names_from}
use Rattle.ato_files.proofs.first_import.in_names.Given as goal

abbrev pub invariant-loop-one : goal.invariant-loop-one
invariant-loop-one l = find (is_of l.name.0) (names_from l.from l.names) ≡ find (is_of l.name.0) (names_from l.from (drop l.one-index l.names))
