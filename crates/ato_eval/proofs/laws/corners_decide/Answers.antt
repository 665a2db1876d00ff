use Rattle.ato_eval.proofs.PlainLaws.{corner_decides}
use Rattle.ato_eval.proofs.laws.corners_decide.Goals as goal

pub returns : goal.returns
returns c = λ table ranges relation judgement proper plain j unsure narrow. corner_decides table ranges proper relation plain judgement j unsure narrow
