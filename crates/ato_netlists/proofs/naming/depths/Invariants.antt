use Rattle.std.proofs.Common.{◌≡◌, ◌<◌, take, length}
use Rattle.std.specs.Prelude.{All}
use Rattle.ato_netlists.specs.Signals.{depths_of}
use Rattle.ato_netlists.proofs.naming.depths.Given as goal

abbrev pub invariant-loop-node : goal.invariant-loop-node
invariant-loop-node l = (l.depths.items ≡ depths_of (take l.node-index l.nodes)) × All (λ depth. depth < length l.depths.items) l.depths.items
