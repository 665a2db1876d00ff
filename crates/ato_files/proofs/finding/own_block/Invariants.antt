use Rattle.std.proofs.Common.{◌≡◌, ◌<◌, ℕ, Some, false}
use Rattle.std.specs.Prelude.{slice_get}
use Rattle.ato_files.specs.declared.program.BlockInfo.{BlockInfo}
use Rattle.ato_files.specs.Finding.{is_named}
use Rattle.ato_files.proofs.finding.own_block.Given as goal

abbrev pub invariant-loop-info : goal.invariant-loop-info
invariant-loop-info l = (k : ℕ) (info : BlockInfo) → k < l.info-index → slice_get l.blocks k ≡ Some info → is_named l.files l.file l.name.0 info ≡ false
