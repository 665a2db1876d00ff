use Rattle.ato_elab.proofs.FirstLemmas.{stmts_are}
use Rattle.ato_elab.proofs.late_laws.stmts_are_walked.Goals as goal

pub returns : goal.returns
returns c = λ files names entry built ss is e. stmts_are is ss e
