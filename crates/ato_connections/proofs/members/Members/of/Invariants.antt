use Rattle.std.proofs.Common.{length, take}
use Rattle.ato_connections.specs.Members.{AreFirst}
use Rattle.ato_connections.proofs.members.Members.of.Given as goal

abbrev pub invariant-loop-number : goal.invariant-loop-number
invariant-loop-number l = AreFirst (length l.nodes) (take l.number l.nodes) l.members
