-- Why operations are refused.
use Rattle.ato_frac.specs.declared.faults.NumFault.{NumFault}
use Rattle.ato_frac.specs.declared.faults.NumFault.TheVariants.{Wide, ByZero}
use Rattle.ato_rational.specs.Rational.{ℚ, ◌≈ℚ◌, IsNotZero, zero_ℚ}

-- why a quotient by y is refused: y is 0, or else the result is too wide
abbrev pub RefusesQuotient : ℚ → Type 0 → NumFault → Type 0
RefusesQuotient y too_wide Wide = IsNotZero y × too_wide
RefusesQuotient y too_wide ByZero = y ≈ℚ zero_ℚ
