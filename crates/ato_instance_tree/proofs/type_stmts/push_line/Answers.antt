use Rattle.std.proofs.Common.{map}
use Rattle.ato_instance_tree.specs.Kept.{located_of}
use Rattle.ato_instance_tree.proofs.StepLaws.{line_more}
use Rattle.ato_instance_tree.proofs.type_stmts.push_line.Goals as goal

pub loop-part-preserved : goal.loop-part-preserved
loop-part-preserved c = line_more c.args.block c.args.line c.args.parts.now c.loop-part.part c.index-parts-part.result (map located_of c.args.found.now) (map located_of c.loop-part.found)
    (map located_of c.push_stmt.new.found) c.loop-part-test.true c.index-parts-part.is c.loop-part.invariant c.in_ok-push_stmt.ensures
