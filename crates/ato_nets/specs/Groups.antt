-- Points in groups by the numbers of their classes.
use Rattle.std.specs.Prelude.{◌≡◌, ℕ, ◌+◌, List, [], ◌∷◌, ◌++◌, zero, suc}
use Rattle.std.specs.List.{slice_index}

-- Two points have one class number, where points are counted from this one on.
abbrev pub SameClass : List ℕ → ℕ → ℕ → ℕ → Type 0
SameClass of first i j = slice_index of (first + i) ≡ slice_index of (first + j)

-- the numbers below this one, in their order
abbrev pub numbers_below : ℕ → List ℕ
numbers_below zero = []
numbers_below (suc n) = numbers_below n ++ n ∷ []
