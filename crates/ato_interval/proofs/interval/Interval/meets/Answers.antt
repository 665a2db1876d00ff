use Rattle.ato_interval.proofs.TargetLaws.{meets_told}
use Rattle.ato_interval.proofs.interval.Interval.meets.Goals as goal

pub returns : goal.returns
returns g c = rw c.is_some.ensures (meets_told g.Q.Exact.value _ _ _ c.common.ensures)
