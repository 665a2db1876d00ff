use Rattle.ato_elab.proofs.FoundLaws.{paths_are_found}
use Rattle.ato_elab.proofs.late_laws.paths_are_found.Goals as goal

pub returns : goal.returns
returns c = paths_are_found
