use Rattle.std.proofs.Common.{length}
use Rattle.ato_interval.proofs.PassLaws.{IsComparing}
use Rattle.ato_interval.proofs.set.IntervalSet.subset.Given as goal

-- what is passed over is in the other set
abbrev pub invariant-parts : goal.invariant-parts
invariant-parts g l = IsComparing g.Q.Exact.value l.left l.right l.self l.o

abbrev pub decreases-parts : goal.decreases-parts
decreases-parts g l = length l.left
