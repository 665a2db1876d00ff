-- Powers of ten that are scales of units.
use Rattle.std.specs.Prelude.{ℤ, pos, neg_ℤ, ◌≤ℤ◌}

-- a power of ten that fits a fraction as it is and below a line
pub record IsSmallPower (power : ℤ) : Type 0 where
  pub low : neg_ℤ (pos 18) ≤ℤ power
  pub high : power ≤ℤ pos 18
