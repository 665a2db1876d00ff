use Rattle.std.proofs.Common.{arith}
use Rattle.ato_files.proofs.ClashLaws.{clashing_more}
use Rattle.ato_files.proofs.clashes.Clashes.note_all.Goals as goal

pub loop-d-preserved : goal.loop-d-preserved
loop-d-preserved c = λ seen are.
    clashing_more c.args.least.now seen c.loop-d.self c.add.new.self c.loop-d.least c.note_if.new.self c.args.decls.now c.loop-d.d-index _ _ (omega arith)
    (c.loop-d.invariant seen are) c.has.ensures c.note_if.ensures c.in_ok-add.ensures
