use Rattle.std.proofs.Common.{◌≡◌, take}
use Rattle.std.specs.List.{flat_map}
use Rattle.ato_files.specs.Imports.{item_imports}
use Rattle.ato_files.proofs.imports.imports_of_items.Given as goal

abbrev pub invariant-loop-item : goal.invariant-loop-item
invariant-loop-item l = l.imports ≡ flat_map item_imports (take l.item-index l.items)
