-- What a scratch holds of nodes, and which of them are marked.
use Rattle.std.specs.Prelude.{◌≡◌, ℕ, ◌<◌, ◌≤◌, Bool, true, false, List, length, slice_index_or}
use Rattle.ato_frac.specs.declared.fraction.Frac.{Frac}
use Rattle.ato_expr.specs.declared.scratch.Stretch.{Stretch}

-- a mark for each node, and the two ends of what it comes to
pub record Notes : Type 0 where
  pub marks : List Bool
  pub ends : List (Frac × Frac)

-- there is room for so many nodes
pub record HasRoom (notes : Notes) (nodes : ℕ) : Type 0 where
  pub marks : nodes ≤ length notes.marks
  pub ends : nodes ≤ length notes.ends

-- the mark of a node is set, where marks count from first on
pub record IsSet (first : ℕ) (marks : List Bool) (node : ℕ) : Type 0 where
  pub from : first ≤ node
  pub set : slice_index_or marks node false ≡ true

-- a node of a stretch is marked
pub record IsMarked (stretch : Stretch) (marks : List Bool) (node : ℕ) : Type 0 where
  pub from : stretch.first ≤ node
  pub below : node < stretch.end
  pub set : slice_index_or marks node false ≡ true
