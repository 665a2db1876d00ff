use Rattle.ato_eval.proofs.DecidedLaws.{not_unknown}
use Rattle.ato_eval.proofs.laws.points_are_decided.Goals as goal

pub returns : goal.returns
returns c = λ table ranges relation one j. not_unknown ranges one table relation j
