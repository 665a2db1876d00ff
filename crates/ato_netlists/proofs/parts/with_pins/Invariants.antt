use Rattle.std.proofs.Common.{◌≡◌, ◌<◌, ℕ, length, take}
use Rattle.std.specs.List.{list_any}
use Rattle.ato_netlists.specs.Pinned.{is_pin_in, is_marked}
use Rattle.ato_netlists.proofs.parts.with_pins.Given as goal

abbrev pub invariant-loop-node : goal.invariant-loop-node
invariant-loop-node l = (length l.found.items ≡ length l.nodes) × ((q : ℕ) → q < length l.nodes → is_marked l.found.items q ≡ list_any (is_pin_in q) (take l.node-index l.nodes))
