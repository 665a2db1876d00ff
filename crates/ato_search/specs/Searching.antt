-- What the parts of the search give.
use Rattle.std.specs.Prelude.{◌≡◌, ℕ, ◌+◌, ◌-◌, ◌*◌, ◌≤◌, List, ◌∷◌, ◌++◌, length, Some}
use Rattle.std.specs.List.{All}
use Rattle.ato_cert.specs.declared.problem.Row.{Row}
use Rattle.ato_cert.specs.declared.problem.Slot.{Slot}
use Rattle.ato_cert.specs.declared.cert.PickTree.{PickTree}
use Rattle.ato_cert.specs.declared.cert.Proof.{Proof}
use Rattle.ato_cert.specs.Justified.{Refutes, LiesInTarget}
use Rattle.ato_cert.specs.Nodes.{nodes, tree_nodes}
use Rattle.ato_cert.specs.Valid.{IsProofOf}
use Rattle.ato_search.specs.Decides.{Decides}

-- a tree that refutes rows, with at most one line for each row and one for each place between two
pub record IsRefutation (slot : Slot) (rows : List Row) (tree : PickTree) : Type 0 where
  pub refutes : Refutes slot rows tree
  pub few : tree_nodes tree ≤ 1 + 2 * (length rows - 1)

-- the number of the first row in the target
pub record IsFirstInTarget (slot : Slot) (number : ℕ) : Type 0 where
  pub before : List Row
  pub row : Row
  pub after : List Row
  pub rows_are : slot.rows ≡ before ++ row ∷ after
  pub numbered : row.number ≡ number
  pub inside : LiesInTarget slot row
  pub none_before : All (λ other. ¬ LiesInTarget slot other) before

-- a proof that is right for a slot and decides it
pub record IsDecision (slot : Slot) (proof : Proof) : Type 0 where
  pub right : IsProofOf (Some slot) proof
  pub few : nodes proof ≤ 1 + 2 * (length slot.rows - 1)
  pub decides : Decides (record { slot = Some slot }) proof
