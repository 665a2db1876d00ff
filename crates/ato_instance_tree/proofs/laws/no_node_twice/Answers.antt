use Rattle.ato_instance_tree.proofs.SpotLaws as laws
use Rattle.ato_instance_tree.proofs.laws.no_node_twice.Goals as goal

pub returns : goal.returns
returns c = laws.no_node_twice
