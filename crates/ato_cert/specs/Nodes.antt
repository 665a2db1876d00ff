-- How many nodes a certificate has.
use Rattle.std.specs.Prelude.{ℕ, ◌+◌, length}
use Rattle.ato_cert.specs.declared.cert.PickTree.{PickTree, fold-PickTree}
use Rattle.ato_cert.specs.declared.cert.PickTree.TheOpen.{PickTree-F}
use Rattle.ato_cert.specs.declared.cert.Proof.{Proof}
use Rattle.ato_cert.specs.declared.cert.Proof.TheVariants.{Built, Tree}

-- the nodes of a tree, where those of the trees below it are counted
abbrev pub nodes_step : PickTree-F ℕ → ℕ
nodes_step (PickTree-F.Empty slot) = 1
nodes_step (PickTree-F.ByRow slot row low high) = 1 + low + high
nodes_step (PickTree-F.Fails check point) = 1

-- one for each line of a tree
abbrev pub tree_nodes : PickTree → ℕ
tree_nodes = fold-PickTree ℕ nodes_step

-- the lines after the third but for `pick`, `check` and `end`
abbrev pub nodes : Proof → ℕ
nodes (Built pick boxes) = length boxes
nodes (Tree verdict tree) = tree_nodes tree
