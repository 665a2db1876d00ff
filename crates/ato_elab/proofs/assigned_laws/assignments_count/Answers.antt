use Rattle.ato_elab.proofs.AssignedLaws.{assignments_count}
use Rattle.ato_elab.proofs.assigned_laws.assignments_count.Goals as goal

pub returns : goal.returns
returns c = assignments_count
