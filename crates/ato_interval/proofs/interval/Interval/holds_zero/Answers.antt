use Rattle.ato_interval.proofs.ResultLaws.{zero_told}
use Rattle.ato_interval.proofs.interval.Interval.holds_zero.Goals as goal

pub returns : goal.returns
returns g c = zero_told _ _ _ _ c.zero.ensures c.holds.ensures
