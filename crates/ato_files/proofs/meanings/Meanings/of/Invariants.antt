use Rattle.std.proofs.Common.{◌≡◌, take}
use Rattle.std.specs.Prelude.{map}
use Rattle.std.specs.List.{flat_map}
use Rattle.ato_files.specs.Lists.{numbered}
use Rattle.ato_files.specs.NameMaps.{AreFirst}
use Rattle.ato_files.specs.Meant.{file_pairs, targets_in}
use Rattle.ato_files.proofs.meanings.Meanings.of.Given as goal

abbrev pub invariant-loop-number : goal.invariant-loop-number
invariant-loop-number l = record {
  targets : l.targets ≡ map (targets_in l.files) (take l.number l.files);
  pairs : AreFirst (flat_map (file_pairs l.files) (numbered 0 (take l.number l.files))) l.imported;
}
