use Rattle.ato_instance_tree.proofs.FirstLaws as laws
use Rattle.ato_instance_tree.proofs.laws.one_tree_fault.Goals as goal

pub returns : goal.returns
returns c = laws.one_fault
