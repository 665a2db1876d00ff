use Rattle.std.proofs.Common.{◌≡◌, drop}
use Rattle.ato_files.specs.Finding.{import_in}
use Rattle.ato_files.proofs.first_import.in_items.Given as goal

abbrev pub invariant-loop-item : goal.invariant-loop-item
invariant-loop-item l = import_in l.name.0 l.items ≡ import_in l.name.0 (drop l.item-index l.items)
