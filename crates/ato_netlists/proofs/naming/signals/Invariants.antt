use Rattle.ato_netlists.proofs.SignalLaws.{AreKept}
use Rattle.ato_netlists.proofs.naming.signals.Given as goal

abbrev pub invariant-loop-number : goal.invariant-loop-number
invariant-loop-number l = AreKept l.nodes l.depths.items l.of l.found.items l.number
