use Rattle.std.proofs.Common.{◌≡◌, drop}
use Rattle.ato_instance_tree.specs.Targets.{led}
use Rattle.ato_instance_tree.proofs.finding.led.Given as goal

abbrev pub invariant-loop-step : goal.invariant-loop-step
invariant-loop-step l = led l.names l.nodes l.fn.steps l.fn.from ≡ led l.names l.nodes (drop l.step-index l.steps) l.at
