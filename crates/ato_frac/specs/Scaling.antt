-- Whole numbers times powers of 10 that become fractions.
use Rattle.std.specs.Prelude.{ℕ, ℤ, pos, neg_ℤ, ◌≤ℤ◌}
use Rattle.ato_rational.specs.Rational.{◌*ℚ◌, whole}
use Rattle.ato_frac.specs.Numbers.{ten_to}
use Rattle.ato_frac.specs.Range.{IsInRange}

-- m times 10 to the power e is in range, with e from -38 to 38
pub record CanScale (m : ℕ) (e : ℤ) : Type 0 where
  pub e_low : neg_ℤ (pos 38) ≤ℤ e
  pub e_high : e ≤ℤ pos 38
  pub in_range : IsInRange (whole (pos m) *ℚ ten_to e)
