use Rattle.ato_elab.proofs.WholeLaws.{whole}
use Rattle.ato_elab.proofs.late_laws.trees_are_whole.Goals as goal

pub returns : goal.returns
returns c = whole
