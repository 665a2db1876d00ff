use Rattle.ato_instance_tree.proofs.NodesLaws as laws
use Rattle.ato_instance_tree.proofs.laws.nodes_are_members.Goals as goal

pub returns : goal.returns
returns c = laws.are_nodes
