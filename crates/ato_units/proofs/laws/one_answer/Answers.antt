use Rattle.ato_units.proofs.LiteralAnswers.{one_answer}
use Rattle.ato_units.proofs.laws.one_answer.Goals as goal

pub returns : goal.returns
returns c = one_answer
