-- Which ends of its operands' intervals give the ends of an operation's interval.
use Rattle.ato_rational.specs.Rational.{ℚ}
use Rattle.ato_rational.specs.Ranges.{IsAtEnds}
use Rattle.ato_interval.specs.Ends.{Ends, IsProper}
use Rattle.ato_interval.specs.Results.{HoldsResults, IsResult}

-- z is the operation's value at an end of a and an end of b
abbrev pub IsCorner : {Q : Type 0} → (Q → ℚ) → (ℚ → ℚ → ℚ) → Ends Q → Ends Q → ℚ → Type 0
IsCorner value f a b z = IsAtEnds f (value a.low) (value a.high) (value b.low) (value b.high) z

-- both ends of the interval that goes from the least to the greatest result are such values
abbrev pub EndsAtCorners : {Q : Type 0} → (Q → ℚ) → (ℚ → ℚ → ℚ) → Ends Q → Ends Q → Type 0
EndsAtCorners {Q} value f a b =
    (r : Ends Q) → IsProper value a → IsProper value b → HoldsResults value f a b r → IsResult value f a b (value r.low)
    → IsResult value f a b (value r.high) → IsCorner value f a b (value r.low) × IsCorner value f a b (value r.high)
