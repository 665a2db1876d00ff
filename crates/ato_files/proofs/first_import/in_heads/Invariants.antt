use Rattle.std.proofs.Common.{◌≡◌, drop}
use Rattle.std.specs.Prelude.{find}
use Rattle.std.specs.List.{flat_map}
use Rattle.ato_files.specs.Blocks.{head_imports}
use Rattle.ato_files.specs.Finding.{is_of}
use Rattle.ato_files.proofs.first_import.in_heads.Given as goal

abbrev pub invariant-loop-head : goal.invariant-loop-head
invariant-loop-head l = find (is_of l.name.0) (flat_map head_imports l.heads) ≡ find (is_of l.name.0) (flat_map head_imports (drop l.head-index l.heads))
