use Rattle.ato_files.specs.Blocks.{head_imports}
use Rattle.ato_files.specs.Finding.{is_of}
use Rattle.ato_files.proofs.FindLemmas.{found_here, found_later}
use Rattle.ato_files.proofs.first_import.in_heads.Goals as goal

pub returns-in-Some : goal.returns-in-Some
returns-in-Some c = found_here (is_of c.args.name.0) head_imports c.args.heads.now c.loop-head.head-index c.head-item.result c.loop-head-test.true c.head-item.is c.loop-head.invariant c.in-Some.import c.in-Some.ensures

pub loop-head-preserved : goal.loop-head-preserved
loop-head-preserved c = found_later (is_of c.args.name.0) head_imports c.args.heads.now c.loop-head.head-index c.head-item.result c.loop-head-test.true c.head-item.is c.loop-head.invariant c.in_default.ensures
