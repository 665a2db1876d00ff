use Rattle.std.proofs.Common.{◌∙◌}
use Rattle.ato_instance_tree.proofs.LedLaws.{led_further}
use Rattle.ato_instance_tree.proofs.finding.led.Goals as goal

pub loop-step-preserved : goal.loop-step-preserved
loop-step-preserved c = c.loop-step.invariant
    ∙ led_further c.args.names.now c.args.nodes.now c.args.steps.now c.loop-step.step-index c.loop-step.at c.in_ok-at.at c.loop-step-test.true c.in_ok-at.ensures
