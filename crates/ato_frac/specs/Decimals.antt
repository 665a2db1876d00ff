-- Which fraction the text of a number gives, and why a text gives none.
use Rattle.std.specs.Prelude.{ℕ, ◌^◌, ◌<◌, ℤ, pos, neg_ℤ, ◌≤ℤ◌, List, Option, MatchOption}
use Rattle.ato_rational.specs.Rational.{ℚ, ◌≈ℚ◌}
use Rattle.ato_frac.specs.declared.faults.DecimalFault.{DecimalFault}
use Rattle.ato_frac.specs.declared.faults.DecimalFault.TheVariants.{BadText, Wide}
use Rattle.ato_frac.specs.declared.fraction.Frac.{Frac}
use Rattle.ato_frac.specs.Fractions.{value_of}
use Rattle.ato_frac.specs.Numbers.{Parts, IsNumber, IsScaled, number_value}
use Rattle.ato_frac.specs.Range.{IsInRange}

-- a value that is read: m times 10 to the power e, with m below 2^127, e from -38 to 38, and itself in range
pub record IsReadable (value : ℚ) : Type 0 where
  pub m : ℕ
  pub e : ℤ
  pub scaled : IsScaled value m e
  pub m_small : m < 2 ^ 127
  pub e_low : neg_ℤ (pos 38) ≤ℤ e
  pub e_high : e ≤ℤ pos 38
  pub in_range : IsInRange value

-- a fraction of the value where it is read, and none where it is not
abbrev pub IsReadAs : ℚ → Option Frac → Type 0
IsReadAs value given = MatchOption given (¬ IsReadable value) (λ f. IsReadable value × (value_of f ≈ℚ value))

-- the text is a number that is read, and the fraction has its value
pub record Reads (text : List ℕ) (f : Frac) : Type 0 where
  pub parts : Parts
  pub number : IsNumber text parts
  pub readable : IsReadable (number_value parts)
  pub value : value_of f ≈ℚ number_value parts

-- why a text gives no fraction: it is no number, or it is one that is not read
abbrev pub RefusesText : List ℕ → DecimalFault → Type 0
RefusesText text BadText = (parts : Parts) → ¬ IsNumber text parts
RefusesText text Wide = (parts : Parts) × IsNumber text parts × ¬ IsReadable (number_value parts)
