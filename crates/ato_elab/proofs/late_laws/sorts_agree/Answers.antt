use Rattle.ato_elab.proofs.NamedLaws.{sorts_agree}
use Rattle.ato_elab.proofs.late_laws.sorts_agree.Goals as goal

pub returns : goal.returns
returns c = sorts_agree
