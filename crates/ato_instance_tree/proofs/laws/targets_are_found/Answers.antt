use Rattle.ato_instance_tree.proofs.TargetLaws as laws
use Rattle.ato_instance_tree.proofs.laws.targets_are_found.Goals as goal

pub returns : goal.returns
returns c = laws.found
