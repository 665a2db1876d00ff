use Rattle.std.proofs.Common.{◌∙◌}
use Rattle.ato_connections.specs.Members.{held_pin}
use Rattle.ato_connections.proofs.members.Members.pin.Goals as goal

pub returns-in-Some : goal.returns-in-Some
unfolding held_pin
returns-in-Some c = λ ns are. c.in-Some.ensures.value ∙ are.pins c.args.instance c.args.text.now

pub returns-in-None : goal.returns-in-None
unfolding held_pin
returns-in-None c = λ ns are. c.in-None.ensures.value ∙ are.pins c.args.instance c.args.text.now
