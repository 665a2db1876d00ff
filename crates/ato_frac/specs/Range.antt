-- The values that a fraction can have.
use Rattle.std.specs.Prelude.{◌<◌, ◌^◌, unsigned_abs}
use Rattle.std.specs.Int.{IsGcd}
use Rattle.ato_rational.specs.Rational.{ℚ, ◌≈ℚ◌}

-- in lowest terms, with numerator and denominator below 2^127 in size
pub record IsSmallAndLowest (x : ℚ) : Type 0 where
  pub lowest : IsGcd (unsigned_abs x.num) x.den 1
  pub num_small : unsigned_abs x.num < 2 ^ 127
  pub den_small : x.den < 2 ^ 127

-- a value in range: its lowest terms are that small
pub record IsInRange (x : ℚ) : Type 0 where
  pub terms : ℚ
  pub same : terms ≈ℚ x
  pub small : IsSmallAndLowest terms
