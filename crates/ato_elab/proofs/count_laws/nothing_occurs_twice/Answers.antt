use Rattle.ato_elab.proofs.OnceLaws.{nothing_occurs_twice}
use Rattle.ato_elab.proofs.count_laws.nothing_occurs_twice.Goals as goal

pub returns : goal.returns
returns c = nothing_occurs_twice
