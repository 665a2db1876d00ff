use Rattle.std.proofs.Common.{◌≡◌, ◌++◌, take}
use Rattle.std.specs.List.{flat_map}
use Rattle.ato_files.specs.Blocks.{head_imports}
use Rattle.ato_files.proofs.imports.push_heads.Given as goal

abbrev pub invariant-loop-head : goal.invariant-loop-head
invariant-loop-head l = l.imports ≡ l.fn.imports ++ flat_map head_imports (take l.head-index l.heads)
