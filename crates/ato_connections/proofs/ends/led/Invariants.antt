use Rattle.std.proofs.Common.{◌≡◌, drop}
use Rattle.ato_instance_tree.specs.Targets.{led}
use Rattle.ato_connections.specs.Given.{IsGiven}
use Rattle.ato_connections.proofs.ends.led.Given as goal

abbrev pub invariant-loop-step : goal.invariant-loop-step
invariant-loop-step l = IsGiven l.given → led l.given.program.now.names l.given.nodes.now l.fn.steps l.fn.instance
    ≡ led l.given.program.now.names l.given.nodes.now (drop l.step-index l.steps) l.at
