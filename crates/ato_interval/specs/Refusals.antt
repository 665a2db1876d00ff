-- Why a quotient of intervals is refused.
use Rattle.ato_interval.specs.declared.faults.RangeFault.{RangeFault}
use Rattle.ato_interval.specs.declared.faults.RangeFault.TheVariants.{Wide, HoldsZero}
use Rattle.ato_rational.specs.Rational.{ℚ, zero_ℚ}
use Rattle.ato_rational.specs.Ranges.{IsApartFromZero}
use Rattle.ato_interval.specs.Ends.{Ends, Holds}

-- why a quotient by an interval is refused: the divisor holds 0, or else an operation on ends is refused
abbrev pub RefusesQuotient : {Q : Type 0} → (Q → ℚ) → Ends Q → Type 0 → RangeFault → Type 0
RefusesQuotient value by too_wide Wide = IsApartFromZero (value by.low) (value by.high) × too_wide
RefusesQuotient value by too_wide HoldsZero = Holds value by zero_ℚ
