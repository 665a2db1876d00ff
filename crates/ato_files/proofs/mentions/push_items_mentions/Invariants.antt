use Rattle.std.proofs.Common.{◌≡◌, ◌++◌, take}
use Rattle.std.specs.List.{flat_map}
use Rattle.ato_files.specs.Files.{head_mention, item_heads}
use Rattle.ato_files.proofs.mentions.push_items_mentions.Given as goal

abbrev pub invariant-loop-item : goal.invariant-loop-item
invariant-loop-item l = l.found ≡ l.fn.found ++ flat_map head_mention (flat_map item_heads (take l.item-index l.items))
