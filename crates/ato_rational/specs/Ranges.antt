-- What intervals of rationals hold.
use Rattle.std.specs.Prelude.{◌⊎◌}
use Rattle.ato_rational.specs.Rational.{ℚ, ◌≈ℚ◌, ◌≤ℚ◌, ◌<ℚ◌, ◌*ℚ◌, zero_ℚ}

pub record IsWithin (low high x : ℚ) : Type 0 where
  pub above : low ≤ℚ x
  pub below : x ≤ℚ high

-- R holds of each end of the first interval with each end of the second
pub record AtEnds {A : Type 0} (R : A → A → Type 0) (low high low' high' : A) : Type 0 where
  pub low_low : R low low'
  pub low_high : R low high'
  pub high_low : R high low'
  pub high_high : R high high'

-- x is f of an end of the first interval and an end of the second
abbrev pub IsAtEnds : (ℚ → ℚ → ℚ) → ℚ → ℚ → ℚ → ℚ → ℚ → Type 0
IsAtEnds f low high low' high' x =
    ((x ≈ℚ f low low') ⊎ (x ≈ℚ f low high')) ⊎ ((x ≈ℚ f high low') ⊎ (x ≈ℚ f high high'))

-- x times some value from c to d lies from l to h
pub record IsQuotient (l h c d x : ℚ) : Type 0 where
  pub by : ℚ
  pub by_within : IsWithin c d by
  pub product_within : IsWithin l h (x *ℚ by)

-- an interval that does not hold 0
abbrev pub IsApartFromZero : ℚ → ℚ → Type 0
IsApartFromZero low high = (zero_ℚ <ℚ low) ⊎ (high <ℚ zero_ℚ)
