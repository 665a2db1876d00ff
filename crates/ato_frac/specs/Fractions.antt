-- What a fraction means, and where sums, differences, products and quotients of fractions are there.
use Rattle.std.specs.Prelude.{ℕ, ℤ, ◌*◌, ◌/◌, ◌^◌, ◌<◌, pos, ◌+ℤ◌, ◌*ℤ◌, unsigned_abs}
use Rattle.std.specs.Int.{IsGcd}
use Rattle.ato_frac.specs.declared.fraction.Frac.{Frac}
use Rattle.ato_frac.specs.Range.{IsInRange}
use Rattle.ato_rational.specs.Rational.{ℚ, neg_ℚ, ◌*ℚ◌, ◌/ℚ◌}

-- the value of a fraction: its numerator over its denominator
abbrev pub value_of : Frac → ℚ
value_of f = record { num = f.numer; den = f.denom; positive = f.positive }

-- for a / b + c / d over the common denominator by g: a·(d/g), c·(b/g), their sum and (b/g)·d are below 2^127 in size
pub record AddsOver (g : ℕ) (a : ℤ) (b : ℕ) (c : ℤ) (d : ℕ) : Type 0 where
  pub left : unsigned_abs (a *ℤ pos (d / g)) < 2 ^ 127
  pub right : unsigned_abs (c *ℤ pos (b / g)) < 2 ^ 127
  pub sum : unsigned_abs (a *ℤ pos (d / g) +ℤ c *ℤ pos (b / g)) < 2 ^ 127
  pub common : b / g * d < 2 ^ 127

-- and that for the greatest common divisor of the denominators
pub record Adds (x y : ℚ) : Type 0 where
  pub gcd : ℕ
  pub is_gcd : IsGcd x.den y.den gcd
  pub over : AddsOver gcd x.num x.den y.num y.den

-- where a sum of fractions is there
abbrev pub CanAdd : Frac → Frac → Type 0
CanAdd x y = Adds (value_of x) (value_of y)

-- where a difference is there: where the sum with the opposite is
abbrev pub CanSubtract : Frac → Frac → Type 0
CanSubtract x y = Adds (value_of x) (neg_ℚ (value_of y))

-- where a product is there: where it is in range
abbrev pub CanMultiply : Frac → Frac → Type 0
CanMultiply x y = IsInRange (value_of x *ℚ value_of y)

-- where a quotient by a fraction that is not 0 is there: where it is in range
abbrev pub CanDivide : Frac → Frac → Type 0
CanDivide x y = IsInRange (value_of x /ℚ value_of y)
