use Rattle.ato_instance_tree.proofs.LimitLaws as laws
use Rattle.ato_instance_tree.proofs.laws.limits_are_kept.Goals as goal

pub returns : goal.returns
returns c = laws.kept
