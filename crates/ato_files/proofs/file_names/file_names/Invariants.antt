use Rattle.std.proofs.Common.{◌≡◌, take}
use Rattle.std.specs.List.{flat_map}
use Rattle.ato_files.specs.NameFaults.{item_names}
use Rattle.ato_files.proofs.file_names.file_names.Given as goal

abbrev pub invariant-loop-item : goal.invariant-loop-item
invariant-loop-item l = l.out ≡ flat_map item_names (take l.item-index l.items)
