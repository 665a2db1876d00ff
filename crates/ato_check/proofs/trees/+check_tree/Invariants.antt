use Rattle.ato_cert.specs.Nodes.{tree_nodes}
use Rattle.ato_check.proofs.trees.+check_tree.Given as goal

abbrev pub decreases-check_tree : goal.decreases-check_tree
decreases-check_tree l = tree_nodes l.tree.now
