use Rattle.std.proofs.Common.{arith}
use Rattle.ato_files.proofs.ClashLaws.{declared_more}
use Rattle.ato_files.proofs.clashes.Clashes.add_all.Goals as goal

pub loop-d-preserved : goal.loop-d-preserved
loop-d-preserved c = λ seen are. declared_more c.loop-d.self c.add.new.self seen c.args.decls.now c.loop-d.d-index _ (omega arith) (c.loop-d.invariant seen are) c.in_ok-add.ensures
