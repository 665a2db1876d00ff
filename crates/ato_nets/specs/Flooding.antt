-- What holds while the classes are flooded. The row of a point lists its neighbours, each number of a point is below
-- how many rows there are, and that count itself stands where a point has no number yet.
use Rattle.std.specs.Prelude.{◌≡◌, ℕ, ◌<◌, ◌≤◌, ◌⊎◌, List, [], ◌∷◌, ◌++◌, length, Contains, ◌==◌, count_by, slice_index, slice_index_or, slice_set}
use Rattle.ato_base.specs.Joined.{Joined}
use Rattle.ato_nets.specs.ClassNumbers.{IsJoin}

-- The second point stands in the row of the first.
pub record IsNeighbour (rows : List (List ℕ)) (p q : ℕ) : Type 0 where
  pub found : Contains (slice_index_or rows p []) q

-- The rows with one more neighbour at the end of a point's row.
abbrev pub with_neighbour : List (List ℕ) → ℕ → ℕ → List (List ℕ)
with_neighbour rows p q = slice_set rows p (slice_index_or rows p [] ++ q ∷ [])

-- The neighbours are those that a written join has, in both directions.
pub record AreRows (joins : List (ℕ × ℕ)) (rows : List (List ℕ)) : Type 0 where
  pub there : (p q : ℕ) → IsJoin joins p q → IsNeighbour rows p q
  pub back : (p q : ℕ) → IsJoin joins p q → IsNeighbour rows q p
  pub only : (p q : ℕ) → IsNeighbour rows p q → IsJoin joins p q ⊎ IsJoin joins q p

-- Each neighbour has the point as its own neighbour.
pub record AreMutual (rows : List (List ℕ)) : Type 0 where
  pub back : (p q : ℕ) → IsNeighbour rows p q → IsNeighbour rows q p

-- How many points have no number.
abbrev pub unnumbered : List (List ℕ) → List ℕ → ℕ
unnumbered rows of = count_by (λ n. n == length rows) of

-- The points below `done` have numbers. Each number is that of a joined point, and none is above its own point. The
-- stacked points have the one number, and each other numbered point has it in common with its neighbours.
pub record IsFlooded (rows : List (List ℕ)) (done number : ℕ) (of stack : List ℕ) : Type 0 where
  pub size : length of ≡ length rows
  pub most : (p : ℕ) → p < length rows → slice_index of p ≤ length rows
  pub below : (p : ℕ) → p < done → slice_index of p < length rows
  pub joined : (p : ℕ) → p < length rows → slice_index of p < length rows → Joined (IsNeighbour rows) p (slice_index of p)
  pub least : (p : ℕ) → p < length rows → slice_index of p < length rows → slice_index of p ≤ p
  pub stacked : (p : ℕ) → Contains stack p → (p < length rows) × (slice_index of p ≡ number)
  pub closed : (p q : ℕ) → IsNeighbour rows p q → slice_index of p < length rows → (slice_index of q ≡ slice_index of p) ⊎ Contains stack p
