use Rattle.std.proofs.Common.{◌≡◌}
use Rattle.ato_netlists.specs.Pinned.{parts_below}
use Rattle.ato_netlists.proofs.parts.parts.Given as goal

abbrev pub invariant-loop-number : goal.invariant-loop-number
invariant-loop-number l = l.found ≡ parts_below l.nodes l.pins.items l.strings l.number
