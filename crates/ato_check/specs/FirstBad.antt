-- Which line of a certificate is its first bad one, where lines are numbered from 1.
use Rattle.std.specs.Prelude.{◌≡◌, ℕ, ◌+◌, ◌<◌, List, [], ◌∷◌, Option, Some, None}
use Rattle.std.specs.List.{Contains}
use Rattle.ato_frac.specs.declared.fraction.Frac.{Frac}
use Rattle.ato_cert.specs.declared.problem.Row.{Row}
use Rattle.ato_cert.specs.declared.problem.Slot.{Slot}
use Rattle.ato_cert.specs.declared.problem.Problem.{Problem}
use Rattle.ato_cert.specs.declared.cert.BoxTree.{BoxTree}
use Rattle.ato_cert.specs.declared.cert.BoxTree.TheVariants.{Holds}
use Rattle.ato_cert.specs.declared.cert.PickTree.{PickTree}
use Rattle.ato_cert.specs.declared.cert.PickTree.TheVariants as tree
use Rattle.ato_cert.specs.declared.cert.Verdict.TheVariants.{Refuted}
use Rattle.ato_cert.specs.declared.cert.Proof.{Proof}
use Rattle.ato_cert.specs.declared.cert.Proof.TheVariants.{Built, Tree}
use Rattle.ato_cert.specs.declared.cert.Cert.{Cert}
use Rattle.ato_cert.specs.Selection.{FailsAt}
use Rattle.ato_cert.specs.Justified.{low_side, high_side, IsMiddle, Refutes, LiesInTarget}
use Rattle.ato_cert.specs.Nodes.{nodes, tree_nodes}
use Rattle.ato_cert.specs.Valid.{IsProofOf}

-- the first line of a tree is justified over the rows left, whatever stands below it
pub data IsJustified (slot : Slot) : List Row → PickTree → Type 0 where
  empty : IsJustified slot [] (tree.Empty 1)
  by_row : {rows : List Row} (number : ℕ) (low high : PickTree) → IsMiddle rows number → IsJustified slot rows (tree.ByRow 1 number low high)
  fails : {rows : List Row} (t : Frac) → FailsAt slot rows t → IsJustified slot rows (tree.Fails 1 (t ∷ []))

-- the first line of a tree that is not justified over the rows left, numbered from 0: the lines of a tree are its first one,
-- those of the low tree and those of the high tree
pub data IsBadAt (slot : Slot) : List Row → PickTree → ℕ → Type 0 where
  here : {rows : List Row} {tree : PickTree} → ¬ IsJustified slot rows tree → IsBadAt slot rows tree 0
  low : {rows : List Row} {low : PickTree} {k : ℕ} (number : ℕ) (high : PickTree) → IsMiddle rows number
      → IsBadAt slot (low_side number rows) low k → IsBadAt slot rows (tree.ByRow 1 number low high) (1 + k)
  high : {rows : List Row} {low high : PickTree} {k : ℕ} (number : ℕ) → IsMiddle rows number
      → Refutes slot (low_side number rows) low → IsBadAt slot (high_side number rows) high k
      → IsBadAt slot rows (tree.ByRow 1 number low high) (1 + tree_nodes low + k)

-- the pick takes one candidate
pub record IsPicked (slot : Slot) (pick : List ℕ) (row : Row) : Type 0 where
  pub candidate : Contains slot.rows row
  pub pick_is : pick ≡ row.number ∷ []

-- the first bad line of a pick with its checks, whose lines are `pick` from line 4 on, `check 1`, `holds` and `end`: line 4 where the
-- pick takes no candidate, line 6 where the candidate's range does not lie in the target, and line 2 where `built` stands without
-- its check
pub data IsBadPick (slot : Slot) (pick : List ℕ) (boxes : List BoxTree) : ℕ → Type 0 where
  no_candidate : ((row : Row) → ¬ IsPicked slot pick row) → IsBadPick slot pick boxes 4
  outside : (row : Row) → IsPicked slot pick row → boxes ≡ Holds ∷ [] → ¬ LiesInTarget slot row → IsBadPick slot pick boxes 6
  unchecked : (row : Row) → IsPicked slot pick row → boxes ≡ [] → IsBadPick slot pick boxes 2

-- the first bad line of a tree, whose lines follow the first three
pub record IsBadTree (slot : Slot) (tree : PickTree) (line : ℕ) : Type 0 where
  pub at : ℕ
  pub bad : IsBadAt slot slot.rows tree at
  pub line_is : line ≡ 4 + at

-- the first line that is not justified, and else the second where the verdict wants more; without a slot nothing is bad
abbrev pub IsBadProof : Option Slot → Proof → ℕ → Type 0
IsBadProof None proof line = ⊥
IsBadProof (Some slot) (Built pick boxes) line = IsBadPick slot pick boxes line
IsBadProof (Some slot) (Tree Refuted tree) line = IsBadTree slot tree line

-- the first bad line of a certificate of the form: one of the proof or its verdict, and else the third, where the steps are too
-- few
pub data IsFirstBad (problem : Problem) (cert : Cert) : ℕ → Type 0 where
  in_proof : {line : ℕ} → IsBadProof problem.slot cert.proof line → IsFirstBad problem cert line
  steps : IsProofOf problem.slot cert.proof → cert.steps < nodes cert.proof → IsFirstBad problem cert 3
