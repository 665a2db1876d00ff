use Rattle.ato_elab.proofs.FirstLemmas.{first_fault}
use Rattle.ato_elab.proofs.late_laws.first_marks_are_faults.Goals as goal

pub returns : goal.returns
returns c = λ names entry g late differ is first. first_fault names entry g differ is late first
