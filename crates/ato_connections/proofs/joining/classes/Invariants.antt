use Rattle.std.proofs.Common.{◌≡◌, take}
use Rattle.ato_connections.proofs.joining.classes.Given as goal

abbrev pub invariant-loop-number : goal.invariant-loop-number
invariant-loop-number l = l.of ≡ take l.number-index l.number-items
