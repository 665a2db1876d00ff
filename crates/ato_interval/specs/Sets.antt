-- Sets of rational values that are made of intervals.
use Rattle.std.specs.Prelude.{◌⊎◌, List, [], ◌∷◌}
use Rattle.ato_rational.specs.Rational.{ℚ, ◌<ℚ◌}
use Rattle.ato_interval.specs.Ends.{Ends, Holds, IsProper}

-- x lies in one of the parts
abbrev pub IsIn : {Q : Type 0} → (Q → ℚ) → List (Ends Q) → ℚ → Type 0
IsIn value [] x = ⊥
IsIn value (part ∷ parts) x = Holds value part x ⊎ IsIn value parts x

-- each part is an interval, and ends below every value of those that follow: the parts rise, and no two touch
abbrev pub AreRising : {Q : Type 0} → (Q → ℚ) → List (Ends Q) → Type 0
AreRising value [] = Unit {0}
AreRising value (part ∷ parts) =
    IsProper value part × ((x : ℚ) → IsIn value parts x → value part.high <ℚ x) × AreRising value parts
