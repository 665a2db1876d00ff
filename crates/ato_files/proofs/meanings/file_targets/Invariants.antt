use Rattle.std.proofs.Common.{◌≡◌, ◌++◌, ℕ, List, Option, take}
use Rattle.std.specs.Prelude.{map}
use Rattle.ato_files.specs.Blocks.{imported}
use Rattle.ato_files.specs.NameMaps.{AreFirst}
use Rattle.ato_files.specs.Meant.{import_pair}
use Rattle.ato_files.proofs.meanings.file_targets.Given as goal

abbrev pub invariant-loop-import : goal.invariant-loop-import
invariant-loop-import l = record {
  targets : l.targets ≡ map (imported l.names.files.now l.file) (take l.import-index l.import-items);
  pairs : (pairs : List ((ℕ × ℕ) × Option ℕ)) → AreFirst pairs l.fn.imported → AreFirst (pairs ++ map (import_pair l.names.files.now l.number l.file) (take l.import-index l.import-items)) l.imported;
}
