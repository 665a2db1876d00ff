use Rattle.ato_elab.proofs.NamedLaws.{names_are_found}
use Rattle.ato_elab.proofs.late_laws.names_are_found.Goals as goal

pub returns : goal.returns
returns c = names_are_found
