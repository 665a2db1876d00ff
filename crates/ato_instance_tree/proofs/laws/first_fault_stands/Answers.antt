use Rattle.ato_instance_tree.proofs.FirstLaws as laws
use Rattle.ato_instance_tree.proofs.laws.first_fault_stands.Goals as goal

pub returns : goal.returns
returns c = laws.first_stands
