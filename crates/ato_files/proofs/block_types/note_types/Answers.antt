use Rattle.std.proofs.Common.{arith, ap, ◌∙◌}
use Rattle.ato_files.specs.Noted.{noted}
use Rattle.ato_files.specs.NameFaults.{unknown}
use Rattle.ato_files.proofs.NotedLaws.{noted_step}
use Rattle.ato_files.proofs.TableLaws.{unless_same}
use Rattle.ato_files.proofs.block_types.note_types.Goals as goal

pub loop-of-preserved : goal.loop-of-preserved
loop-of-preserved c = noted_step (unknown c.args.tables.now.files.now c.args.file) c.args.least.now c.loop-of.least c.note_unless.new.self c.args.types.now c.loop-of.of-index _ (omega arith)
    c.loop-of.invariant (c.note_unless.ensures ∙ ap (noted c.loop-of.least) (unless_same _ _ _ c.knows.ensures))
