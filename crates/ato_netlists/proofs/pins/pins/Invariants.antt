use Rattle.std.proofs.Common.{◌≡◌, ◌++◌, drop}
use Rattle.ato_netlists.specs.Pins.{pin_numbers}
use Rattle.ato_netlists.proofs.pins.pins.Given as goal

abbrev pub invariant-loop-number : goal.invariant-loop-number
invariant-loop-number l = l.found ++ pin_numbers l.number (drop l.number l.nodes) ≡ pin_numbers 0 l.nodes
