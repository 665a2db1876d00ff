-- How a table lies in memory: the children of all nodes in one list, and each node with the range of its own.
use Rattle.std.specs.Prelude.{ℕ, ◌<◌, ◌≤◌, ◌^◌, List, [], ◌∷◌, length, map, slice_range}
use Rattle.ato_expr.specs.declared.table.Node.{Node}
use Rattle.ato_expr.specs.Tables.{Entry, IsTable}

-- the entry of a node
abbrev pub entry_at : List ℕ → Node → Entry
entry_at children node = record { op = node.op; children = slice_range children node.first node.end }

-- the entries of nodes
abbrev pub entries : List ℕ → List Node → List Entry
entries children nodes = map (entry_at children) nodes

-- each node's range lies within a list of so many children
abbrev pub AreWithin : ℕ → List Node → Type 0
AreWithin size [] = Unit {0}
AreWithin size (node ∷ nodes) = (node.first ≤ node.end) × (node.end ≤ size) × AreWithin size nodes

-- the nodes are a table, and few enough that each has a number
pub record IsStored (children : List ℕ) (nodes : List Node) : Type 0 where
  pub within : AreWithin (length children) nodes
  pub few : length nodes < 2 ^ 32
  pub table : IsTable (entries children nodes)
