use Rattle.std.proofs.Common.{◌≡◌, ◌++◌, take}
use Rattle.std.specs.Prelude.{map}
use Rattle.std.specs.List.{flat_map}
use Rattle.ato_files.specs.Blocks.{head_imports}
use Rattle.ato_files.proofs.file_names.push_heads_names.Given as goal

abbrev pub invariant-loop-head : goal.invariant-loop-head
invariant-loop-head l = l.out ≡ l.fn.out ++ flat_map (λ h. map (λ i. i.0) (head_imports h)) (take l.head-index l.heads)
