-- The nodes and the texts of trees, variant by variant.
use Rattle.std.proofs.Common.{◌≡◌, ℕ, ◌+◌, ◌++◌, List, sym, ap, ◌∙◌}
use Rattle.ato_frac.specs.declared.fraction.Frac.{Frac}
use Rattle.ato_cert.specs.declared.cert.PickTree.{PickTree, fold-roll-PickTree}
use Rattle.ato_cert.specs.declared.cert.PickTree.TheOpen.{PickTree-F}
use Rattle.ato_cert.specs.declared.cert.PickTree.TheVariants as tree
use Rattle.ato_cert.specs.Nodes.{nodes_step, tree_nodes}
use Rattle.ato_cert.specs.Texts.{text_step, tree_text, empty_line, row_line, fails_line}

pub nodes_empty : (slot : ℕ) → tree_nodes (tree.Empty slot) ≡ 1
nodes_empty slot = ap tree_nodes (sym (tree.rolls-Empty slot)) ∙ fold-roll-PickTree ℕ nodes_step (PickTree-F.Empty slot)

pub nodes_by_row : (slot row : ℕ) (low high : PickTree) → tree_nodes (tree.ByRow slot row low high) ≡ 1 + tree_nodes low + tree_nodes high
nodes_by_row slot row low high =
    ap tree_nodes (sym (tree.rolls-ByRow slot row low high)) ∙ fold-roll-PickTree ℕ nodes_step (PickTree-F.ByRow slot row low high)

pub nodes_fails : (check : ℕ) (point : List Frac) → tree_nodes (tree.Fails check point) ≡ 1
nodes_fails check point = ap tree_nodes (sym (tree.rolls-Fails check point)) ∙ fold-roll-PickTree ℕ nodes_step (PickTree-F.Fails check point)

pub text_empty : (slot : ℕ) → tree_text (tree.Empty slot) ≡ empty_line slot
text_empty slot = ap tree_text (sym (tree.rolls-Empty slot)) ∙ fold-roll-PickTree (List ℕ) text_step (PickTree-F.Empty slot)

pub text_by_row : (slot row : ℕ) (low high : PickTree) → tree_text (tree.ByRow slot row low high) ≡ row_line slot row ++ (tree_text low ++ tree_text high)
text_by_row slot row low high =
    ap tree_text (sym (tree.rolls-ByRow slot row low high)) ∙ fold-roll-PickTree (List ℕ) text_step (PickTree-F.ByRow slot row low high)

pub text_fails : (check : ℕ) (point : List Frac) → tree_text (tree.Fails check point) ≡ fails_line check point
text_fails check point = ap tree_text (sym (tree.rolls-Fails check point)) ∙ fold-roll-PickTree (List ℕ) text_step (PickTree-F.Fails check point)
