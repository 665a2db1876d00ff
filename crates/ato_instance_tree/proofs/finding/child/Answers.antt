use Rattle.std.proofs.Common.{sym}
use Rattle.ato_instance_tree.specs.Targets.{is_called}
use Rattle.ato_instance_tree.proofs.PositionSteps.{passes, passes_not}
use Rattle.ato_instance_tree.proofs.finding.child.Goals as goal

pub returns-then-is_called : goal.returns-then-is_called
returns-then-is_called c = sym (passes (is_called c.args.parent c.args.pin c.args.text.now) c.args.nodes.now c.loop-number.number c.index-nodes-number.result c.loop-number-test.true
    c.index-nodes-number.is c.loop-number.invariant (sym c.if-is_called.ensures))

pub loop-number-preserved : goal.loop-number-preserved
loop-number-preserved c = passes_not (is_called c.args.parent c.args.pin c.args.text.now) c.args.nodes.now c.loop-number.number c.index-nodes-number.result c.loop-number-test.true
    c.index-nodes-number.is c.loop-number.invariant (sym c.if-is_called.ensures)
