use Rattle.std.proofs.Common.{◌≡◌, ◌++◌, take}
use Rattle.std.specs.List.{flat_map}
use Rattle.ato_ast.specs.FileKinds.{item_kinds}
use Rattle.ato_ast.proofs.flat_file.push_items.Given as goal

abbrev pub invariant-loop-item : goal.invariant-loop-item
invariant-loop-item l = l.out ≡ l.fn.out ++ flat_map item_kinds (take l.item-index l.items)
