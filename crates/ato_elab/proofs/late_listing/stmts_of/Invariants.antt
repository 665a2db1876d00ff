use Rattle.std.proofs.Common.{◌≡◌, Some, take}
use Rattle.std.specs.Prelude.{map}
use Rattle.ato_files.specs.Programs.{AreBlocks}
use Rattle.ato_elab.specs.Listing.{stmt_of}
use Rattle.ato_elab.proofs.late_listing.stmts_of.Given as goal

abbrev pub invariant-loop-at : goal.invariant-loop-at
invariant-loop-at l = AreBlocks l.program.files l.program.blocks → map (λ s. Some s.now) l.stmts ≡ map (stmt_of l.program.files) (take l.at-index l.all)
