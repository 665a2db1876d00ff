-- How far a pass over the parts of two sets has come.
use Rattle.std.specs.Prelude.{◌≡◌, ◌⊎◌, ◌↔◌, ◌+◌, List, [], ◌∷◌, length}
use Rattle.ato_rational.specs.Rational.{ℚ, ◌≤ℚ◌}
use Rattle.ato_interval.specs.Ends.{Ends, Holds, IsProper}
use Rattle.ato_interval.specs.Sets.{IsIn, AreRising}

-- a part with the least low end of two lists, and what is left of them without it
pub record TakesLowest {Q : Type 0} (value : Q → ℚ) (left right : List (Ends Q)) (part : Ends Q) (left' right' : List (Ends Q)) : Type 0 where
  pub proper : IsProper value part
  pub values : (x : ℚ) → (IsIn value left x ⊎ IsIn value right x) ↔ (Holds value part x ⊎ (IsIn value left' x ⊎ IsIn value right' x))
  pub lowest : (x : ℚ) → IsIn value left' x ⊎ IsIn value right' x → value part.low ≤ℚ x
  pub left_rising : AreRising value left'
  pub right_rising : AreRising value right'
  pub one_less : length left' + length right' + 1 ≡ length left + length right

-- the first part, if there is one, ends at low or above
abbrev pub Reaches : {Q : Type 0} → (Q → ℚ) → ℚ → List (Ends Q) → Type 0
Reaches value low [] = Unit {0}
Reaches value low (part ∷ parts) = low ≤ℚ value part.high
