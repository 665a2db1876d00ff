-- Targets: ranges as pairs of ends, in any order, which may overlap and touch.
use Rattle.std.specs.Prelude.{◌⊎◌, List, [], ◌∷◌}
use Rattle.ato_rational.specs.Rational.{ℚ, ◌≤ℚ◌, ◌<ℚ◌}
use Rattle.ato_rational.specs.Ranges.{IsWithin}
use Rattle.ato_interval.specs.Ends.{Ends, Holds}

-- x lies in one of the ranges
abbrev pub IsInOne : {Q : Type 0} → (Q → ℚ) → List (Q × Q) → ℚ → Type 0
IsInOne value [] x = ⊥
IsInOne value (range ∷ ranges) x = IsWithin (value range.0) (value range.1) x ⊎ IsInOne value ranges x

-- one of the ranges begins at x or below, and ends above x
abbrev pub GoesOn : {Q : Type 0} → (Q → ℚ) → List (Q × Q) → ℚ → Type 0
GoesOn value [] x = ⊥
GoesOn value (range ∷ ranges) x = ((value range.0 ≤ℚ x) × (x <ℚ value range.1)) ⊎ GoesOn value ranges x

-- the range has values, and ends from low on below high
abbrev pub EndsIn : {Q : Type 0} → (Q → ℚ) → ℚ → ℚ → Q × Q → Type 0
EndsIn value low high range = (value range.0 ≤ℚ value range.1) × (low ≤ℚ value range.1) × (value range.1 <ℚ high)

-- one of the parts holds each value of a
abbrev pub IsInPart : {Q : Type 0} → (Q → ℚ) → List (Ends Q) → Ends Q → Type 0
IsInPart value [] a = ⊥
IsInPart value (part ∷ parts) a = ((x : ℚ) → Holds value a x → Holds value part x) ⊎ IsInPart value parts a
