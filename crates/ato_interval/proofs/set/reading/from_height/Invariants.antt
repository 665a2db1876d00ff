use Rattle.std.proofs.Common.{length}
use Rattle.ato_interval.proofs.PassLaws.{IsSkipping}
use Rattle.ato_interval.proofs.set.reading.from_height.Given as goal

-- what is passed over lies below the height
abbrev pub invariant-rest : goal.invariant-rest
invariant-rest g l = IsSkipping g.Q.Exact.value (g.Q.Exact.value l.height) l.rest l.parts

abbrev pub decreases-rest : goal.decreases-rest
decreases-rest g l = length l.rest
