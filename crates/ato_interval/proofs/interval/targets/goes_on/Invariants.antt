use Rattle.std.proofs.Common.{length}
use Rattle.ato_interval.specs.Targets.{GoesOn}
use Rattle.ato_interval.proofs.TargetLaws.{IsLeft}
use Rattle.ato_interval.proofs.interval.targets.goes_on.Given as goal

-- one of the ranges that are left goes on where one of all does
abbrev pub invariant-rest : goal.invariant-rest
invariant-rest g l = IsLeft (GoesOn g.Q.Exact.value l.rest (g.Q.Exact.value l.number)) (GoesOn g.Q.Exact.value l.ranges (g.Q.Exact.value l.number))

abbrev pub decreases-rest : goal.decreases-rest
decreases-rest g l = length l.rest
