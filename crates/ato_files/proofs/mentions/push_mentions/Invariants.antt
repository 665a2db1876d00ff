use Rattle.std.proofs.Common.{◌≡◌, ◌++◌, take}
use Rattle.std.specs.List.{flat_map}
use Rattle.ato_files.specs.Files.{head_mention}
use Rattle.ato_files.proofs.mentions.push_mentions.Given as goal

abbrev pub invariant-loop-head : goal.invariant-loop-head
invariant-loop-head l = l.found ≡ l.fn.found ++ flat_map head_mention (take l.head-index l.heads)
