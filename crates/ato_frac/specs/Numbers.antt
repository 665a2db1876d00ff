-- Which texts are numbers, and what they mean. A number is digits; after them there may be a point and digits, and
-- after these `e` or `E`, a sign or none, and digits.
use Rattle.std.specs.Prelude.{◌≡◌, ◌≢◌, ◌⊎◌, ℕ, ◌+◌, ◌*◌, ◌-◌, ◌%◌, ◌^◌, ◌<◌, zero, suc, ℤ, pos, negsuc, ◌+ℤ◌, neg_ℤ, Bool, true, false, List, [], ◌++◌, length, fold, codes}
use Rattle.std.specs.List.{list_all}
use Rattle.std.specs.Char.{is_ascii_digit}
use Rattle.std.proofs.Common.{lit<, sym, subst, mul-pos}
use Rattle.std.proofs.Math.Nat.{pow-suc}
use Rattle.ato_frac.specs.Signed.{signed_of}
use Rattle.ato_rational.specs.Rational.{ℚ, ◌≈ℚ◌, ◌*ℚ◌, whole}

-- one or more of the digits 0 to 9
pub record AreDigits (text : List ℕ) : Type 0 where
  pub some : 0 < length text
  pub all : list_all is_ascii_digit text ≡ true

-- the digits of a number before its point, those after it, and its exponent with whether this is below 0
pub record Parts : Type 0 where
  pub whole : List ℕ
  pub fraction : List ℕ
  pub negative : Bool
  pub exponent : List ℕ

-- nothing, or a point and digits
pub data IsFraction (text digits : List ℕ) : Type 0 where
  no_point : text ≡ [] → digits ≡ [] → IsFraction text digits
  point : text ≡ codes "." ++ digits → AreDigits digits → IsFraction text digits

-- digits with a sign before them, or with none
pub data IsSigned (text : List ℕ) (negative : Bool) (digits : List ℕ) : Type 0 where
  plain : text ≡ digits → negative ≡ false → AreDigits digits → IsSigned text negative digits
  plus : text ≡ codes "+" ++ digits → negative ≡ false → AreDigits digits → IsSigned text negative digits
  minus : text ≡ codes "-" ++ digits → negative ≡ true → AreDigits digits → IsSigned text negative digits

-- nothing, or `e` or `E` and signed digits
pub data IsExponent (text : List ℕ) (negative : Bool) (digits : List ℕ) : Type 0 where
  no_exponent : text ≡ [] → negative ≡ false → digits ≡ [] → IsExponent text negative digits
  lower : (signed : List ℕ) → text ≡ codes "e" ++ signed → IsSigned signed negative digits → IsExponent text negative digits
  upper : (signed : List ℕ) → text ≡ codes "E" ++ signed → IsSigned signed negative digits → IsExponent text negative digits

-- the text is a number of these parts
pub record IsNumber (text : List ℕ) (parts : Parts) : Type 0 where
  pub fraction_text : List ℕ
  pub exponent_text : List ℕ
  pub text_is : text ≡ parts.whole ++ (fraction_text ++ exponent_text)
  pub whole : AreDigits parts.whole
  pub fraction : IsFraction fraction_text parts.fraction
  pub exponent : IsExponent exponent_text parts.negative parts.exponent

-- the value of a number's digits, where more follow
abbrev pub digits_after : ℕ → List ℕ → ℕ
digits_after n digits = fold (λ value digit. value * 10 + (digit - 48)) n digits

-- the value of digits
abbrev pub digits_value : List ℕ → ℕ
digits_value digits = digits_after 0 digits

-- a power of 10 is above 0
pub tens_positive : (k : ℕ) → 0 < 10 ^ k
tens_positive zero = lit< tt
tens_positive (suc k) = subst (λ (n : ℕ). 0 < n) (sym (pow-suc 10 k)) (mul-pos (tens_positive k) (lit< tt))

-- 10 to a whole power
abbrev pub ten_to : ℤ → ℚ
ten_to (pos k) = whole (pos (10 ^ k))
ten_to (negsuc k) = record { num = pos 1; den = 10 ^ suc k; positive = tens_positive (suc k) }

-- the power of 10 that goes with all digits of a number
abbrev pub power_of : Parts → ℤ
power_of parts = signed_of parts.negative (digits_value parts.exponent) +ℤ neg_ℤ (pos (length parts.fraction))

-- what a number means
abbrev pub number_value : Parts → ℚ
number_value parts = whole (pos (digits_value (parts.whole ++ parts.fraction))) *ℚ ten_to (power_of parts)

-- a value is m times 10 to the power e, with m no multiple of 10; 0 is 0 times 10 to the power 0
pub record IsScaled (value : ℚ) (m : ℕ) (e : ℤ) : Type 0 where
  pub same : value ≈ℚ whole (pos m) *ℚ ten_to e
  pub no_multiple : (m % 10 ≢ 0) ⊎ ((m ≡ 0) × (e ≡ pos 0))
