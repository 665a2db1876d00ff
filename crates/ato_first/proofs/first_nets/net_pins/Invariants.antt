use Rattle.std.proofs.Common.{◌≡◌, take, map}
use Rattle.ato_first.specs.FirstGroups.{label_at}
use Rattle.ato_first.specs.FirstNets.{net_pin}
use Rattle.ato_first.proofs.first_nets.net_pins.Given as goal

abbrev pub invariant-loop-pin : goal.invariant-loop-pin
invariant-loop-pin l = l.pins ≡ map (λ pin. net_pin (label_at l.points pin)) (take l.pin-index l.group)
