-- Intervals as their two ends, and the values between them.
use Rattle.ato_rational.specs.Rational.{ℚ, ◌≤ℚ◌}
use Rattle.ato_rational.specs.Ranges.{IsWithin}

-- the two ends of an interval
pub record Ends (Q : Type 0) : Type 0 where
  pub low : Q
  pub high : Q

-- an interval holds each rational value from its low end to its high end, whether or not the type of its ends has that value
abbrev pub Holds : {Q : Type 0} → (Q → ℚ) → Ends Q → ℚ → Type 0
Holds value ends x = IsWithin (value ends.low) (value ends.high) x

-- the low end is not above the high end
abbrev pub IsProper : {Q : Type 0} → (Q → ℚ) → Ends Q → Type 0
IsProper value ends = value ends.low ≤ℚ value ends.high
