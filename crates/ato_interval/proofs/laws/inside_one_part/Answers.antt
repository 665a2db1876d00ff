use Rattle.ato_interval.proofs.TargetLaws.{in_one_part}
use Rattle.ato_interval.proofs.laws.inside_one_part.Goals as goal

pub returns : goal.returns
returns g c = in_one_part g.Q.Exact.value
