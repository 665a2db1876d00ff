use Rattle.std.proofs.Common.{length}
use Rattle.ato_interval.proofs.TargetLaws.{IsLeft, MeetsOne}
use Rattle.ato_interval.proofs.interval.Interval.meets_one_of.Given as goal

-- the interval meets one of the ranges that are left where it meets one of all
abbrev pub invariant-rest : goal.invariant-rest
invariant-rest g l = IsLeft (MeetsOne g.Q.Exact.value l.self l.rest) (MeetsOne g.Q.Exact.value l.self l.ranges)

abbrev pub decreases-rest : goal.decreases-rest
decreases-rest g l = length l.rest
