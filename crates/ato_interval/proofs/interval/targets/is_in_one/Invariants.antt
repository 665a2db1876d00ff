use Rattle.std.proofs.Common.{length}
use Rattle.ato_interval.specs.Targets.{IsInOne}
use Rattle.ato_interval.proofs.TargetLaws.{IsLeft}
use Rattle.ato_interval.proofs.interval.targets.is_in_one.Given as goal

-- the number lies in one of the ranges that are left where it lies in one of all
abbrev pub invariant-rest : goal.invariant-rest
invariant-rest g l = IsLeft (IsInOne g.Q.Exact.value l.rest (g.Q.Exact.value l.number)) (IsInOne g.Q.Exact.value l.ranges (g.Q.Exact.value l.number))

abbrev pub decreases-rest : goal.decreases-rest
decreases-rest g l = length l.rest
