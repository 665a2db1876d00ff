use Rattle.ato_instance_tree.proofs.LastLaws as laws
use Rattle.ato_instance_tree.proofs.laws.effective_is_last.Goals as goal

pub returns : goal.returns
returns c = laws.is_last
