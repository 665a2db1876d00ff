-- What the parts of the check find.
use Rattle.std.specs.Prelude.{◌≡◌, ℕ, List, [], ◌∷◌}
use Rattle.std.specs.List.{Contains}
use Rattle.ato_frac.specs.declared.fraction.Frac.{Frac}
use Rattle.ato_cert.specs.declared.problem.Row.{Row}
use Rattle.ato_cert.specs.declared.problem.Slot.{Slot}
use Rattle.ato_cert.specs.declared.cert.PickTree.{PickTree}
use Rattle.ato_cert.specs.Selection.{FailsAt}
use Rattle.ato_cert.specs.Justified.{Refutes}
use Rattle.ato_cert.specs.Nodes.{tree_nodes}

-- a row with a number
pub record IsNumbered (rows : List Row) (number : ℕ) (row : Row) : Type 0 where
  pub is_left : Contains rows row
  pub numbered : row.number ≡ number

-- a point of one fraction, at which the slot's check fails
pub record FailsAtPoint (slot : Slot) (rows : List Row) (point : List Frac) : Type 0 where
  pub t : Frac
  pub point_is : point ≡ t ∷ []
  pub fails : FailsAt slot rows t

-- so many lines of a tree, of which each is justified
pub record IsCheckedTree (slot : Slot) (rows : List Row) (tree : PickTree) (count : ℕ) : Type 0 where
  pub refutes : Refutes slot rows tree
  pub counted : count ≡ tree_nodes tree
