use Rattle.std.proofs.Common.{arith}
use Rattle.ato_files.specs.Tables.{made_faults}
use Rattle.ato_files.proofs.NotedLaws.{noted_step}
use Rattle.ato_files.proofs.block_types.note_made.Goals as goal

pub loop-of-preserved : goal.loop-of-preserved
loop-of-preserved c = noted_step (made_faults c.args.tables.now.files.now c.args.file) c.args.least.now c.loop-of.least c.note_made_one.new.least c.args.made.now c.loop-of.of-index _ (omega arith)
    c.loop-of.invariant c.note_made_one.ensures
