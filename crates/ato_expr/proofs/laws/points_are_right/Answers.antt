use Rattle.ato_expr.proofs.AtPointLaws.{all_right}
use Rattle.ato_expr.proofs.laws.points_are_right.Goals as goal

pub returns : goal.returns
returns c = λ table world point node p w h. all_right world point w table node p h
