use Rattle.std.proofs.Common.{length}
use Rattle.ato_interval.proofs.TargetLaws.{IsPassing}
use Rattle.ato_interval.proofs.interval.Interval.is_covered_by.Given as goal

-- where a range ended inside, another one goes on
abbrev pub invariant-rest : goal.invariant-rest
invariant-rest g l = IsPassing g.Q.Exact.value (g.Q.Exact.value l.self.low) (g.Q.Exact.value l.self.high) l.rest l.ranges

abbrev pub decreases-rest : goal.decreases-rest
decreases-rest g l = length l.rest
