use Rattle.std.proofs.Common.{◌≡◌, ◌++◌, take}
use Rattle.ato_files.specs.BlockPlaces.{item_places}
use Rattle.ato_files.specs.Lists.{numbered}
use Rattle.ato_files.proofs.block_places.push_items.Given as goal

abbrev pub invariant-loop-number : goal.invariant-loop-number
invariant-loop-number l = l.places ≡ l.fn.places ++ item_places l.file (numbered 0 (take l.number l.items))
