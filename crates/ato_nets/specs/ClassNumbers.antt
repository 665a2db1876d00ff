-- The classes of numbered points, as numbers.
use Rattle.std.specs.Prelude.{◌≡◌, ℕ, ◌<◌, ◌≤◌, List, length, Contains}
use Rattle.std.specs.List.{slice_index}
use Rattle.ato_base.specs.Joined.{Joined}

-- The pair of points is one of the written joins, in this direction.
abbrev pub IsJoin : List (ℕ × ℕ) → ℕ → ℕ → Type 0
IsJoin joins p q = Contains joins (p, q)

-- Each of so many points has the least number of a point that is joined with it.
pub record AreClassNumbers (count : ℕ) (joins : List (ℕ × ℕ)) (of : List ℕ) : Type 0 where
  pub size : length of ≡ count
  pub joined : (p : ℕ) → p < count → Joined (IsJoin joins) p (slice_index of p)
  pub least : (p q : ℕ) → p < count → q < count → Joined (IsJoin joins) p q → slice_index of p ≤ q
