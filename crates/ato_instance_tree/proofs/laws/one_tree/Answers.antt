use Rattle.ato_instance_tree.proofs.TreeLaws as laws
use Rattle.ato_instance_tree.proofs.laws.one_tree.Goals as goal

pub returns : goal.returns
returns c = laws.one_tree
