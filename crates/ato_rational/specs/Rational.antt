-- Rational values: a whole numerator over a whole denominator above 0, of any size. Nothing is reduced here: two
-- values are equal where their cross products are.
use Rattle.std.specs.Prelude.{◌≡◌, ◌⊎◌, ℕ, zero, suc, ◌*◌, ◌<◌, ℤ, pos, negsuc, ◌+ℤ◌, ◌*ℤ◌, neg_ℤ, ◌≤ℤ◌, ◌<ℤ◌, int_le, if◌then◌else◌, Bool}
use Rattle.std.specs.declared.cmp.Ordering.{Ordering}
use Rattle.std.specs.declared.cmp.Ordering.TheVariants.{Less, Equal, Greater}
use Rattle.std.proofs.Common.{lit<, mul-pos, zero-lt-suc}

-- a value, as num / den
pub record ℚ : Type 0 where
  pub num : ℤ
  pub den : ℕ
  pub positive : 0 < den

infix 5 ◌≈ℚ◌ ◌≤ℚ◌ ◌<ℚ◌
-- the same value, by cross products
pub record ◌≈ℚ◌ (x y : ℚ) : Type 0 where
  pub same : x.num *ℤ pos y.den ≡ y.num *ℤ pos x.den

-- the order, by cross products
pub record ◌≤ℚ◌ (x y : ℚ) : Type 0 where
  pub le : (x.num *ℤ pos y.den) ≤ℤ (y.num *ℤ pos x.den)

-- the strict order, by cross products
pub record ◌<ℚ◌ (x y : ℚ) : Type 0 where
  pub lt : (x.num *ℤ pos y.den) <ℤ (y.num *ℤ pos x.den)

-- a test of the order
abbrev pub le_ℚ : ℚ → ℚ → Bool
le_ℚ x y = int_le (x.num *ℤ pos y.den) (y.num *ℤ pos x.den)

-- a whole number as a value
abbrev pub whole : ℤ → ℚ
whole z = record { num = z; den = 1; positive = lit< tt }

-- the value 0
abbrev pub zero_ℚ : ℚ
zero_ℚ = whole (pos 0)

-- above or below 0
abbrev pub IsNotZero : ℚ → Type 0
IsNotZero x = (zero_ℚ <ℚ x) ⊎ (x <ℚ zero_ℚ)

-- the value 1
abbrev pub one_ℚ : ℚ
one_ℚ = whole (pos 1)

infixl 6 ◌+ℚ◌ ◌-ℚ◌
infixl 7 ◌*ℚ◌ ◌/ℚ◌
-- the sum, over the product of the denominators
abbrev pub ◌+ℚ◌ : ℚ → ℚ → ℚ
x +ℚ y = record {
  num = x.num *ℤ pos y.den +ℤ y.num *ℤ pos x.den;
  den = x.den * y.den;
  positive = mul-pos x.positive y.positive;
}

-- the opposite
abbrev pub neg_ℚ : ℚ → ℚ
neg_ℚ x = record { num = neg_ℤ x.num; den = x.den; positive = x.positive }

-- the difference: the sum with the opposite
abbrev pub ◌-ℚ◌ : ℚ → ℚ → ℚ
x -ℚ y = x +ℚ neg_ℚ y

-- the product
abbrev pub ◌*ℚ◌ : ℚ → ℚ → ℚ
x *ℚ y = record { num = x.num *ℤ y.num; den = x.den * y.den; positive = mul-pos x.positive y.positive }

-- d / z, and 0 for z = 0
abbrev pub inverse_of : ℤ → ℕ → ℚ
inverse_of (pos zero) d = zero_ℚ
inverse_of (pos (suc n)) d = record { num = pos d; den = suc n; positive = zero-lt-suc n }
inverse_of (negsuc n) d = record { num = neg_ℤ (pos d); den = suc n; positive = zero-lt-suc n }

-- 1 / x, and 0 for x = 0
abbrev pub inverse_ℚ : ℚ → ℚ
inverse_ℚ x = inverse_of x.num x.den

-- the quotient: the product with the inverse. It is 0 where y is 0, and clauses on quotients say that y is not.
abbrev pub ◌/ℚ◌ : ℚ → ℚ → ℚ
x /ℚ y = x *ℚ inverse_ℚ y

-- the lesser of two values
abbrev pub min_ℚ : ℚ → ℚ → ℚ
min_ℚ x y = if le_ℚ x y then x else y

-- the greater of two values
abbrev pub max_ℚ : ℚ → ℚ → ℚ
max_ℚ x y = if le_ℚ x y then y else x

-- the absolute value
abbrev pub abs_ℚ : ℚ → ℚ
abs_ℚ x = max_ℚ x (neg_ℚ x)

-- the product of k factors x
abbrev pub power_ℚ : ℚ → ℕ → ℚ
power_ℚ x zero = one_ℚ
power_ℚ x (suc k) = x *ℚ power_ℚ x k

-- what a comparison of x with y answers
abbrev pub Orders : ℚ → ℚ → Ordering → Type 0
Orders x y Less = x <ℚ y
Orders x y Equal = x ≈ℚ y
Orders x y Greater = y <ℚ x
