use Rattle.ato_elab.proofs.StmtLaws.{marks_are_faults}
use Rattle.ato_elab.proofs.late_laws.marks_are_faults.Goals as goal

pub returns : goal.returns
returns c = marks_are_faults
