-- Where the absolute value and the powers of an exact number are there. Powers are multiplied out from the left.
use Rattle.std.specs.Prelude.{ℕ, ◌<◌, ◌≤◌}
use Rattle.ato_rational.specs.Rational.{ℚ, ◌≈ℚ◌, ◌<ℚ◌, power_ℚ, zero_ℚ}

-- the absolute value of x is there: where x is below 0, the difference of 0 and x is
abbrev pub CanTurn : {Q : Type 0} → (Q → ℚ) → (Q → Q → Type 0) → Q → Type 0
CanTurn {Q} value can_subtract x = value x <ℚ zero_ℚ → (zero : Q) → value zero ≈ℚ zero_ℚ → can_subtract zero x

-- R holds of the j-th power of x and x
pub record AtPower {Q : Type 0} (value : Q → ℚ) (R : Q → Q → Type 0) (x : Q) (j : ℕ) : Type 0 where
  pub power : Q
  pub is_power : value power ≈ℚ power_ℚ (value x) j
  pub holds : R power x

-- the k-th power of x is there: each power below the k-th, from x itself on, has its product with x
abbrev pub CanRaise : {Q : Type 0} → (Q → ℚ) → (Q → Q → Type 0) → Q → ℕ → Type 0
CanRaise value can_multiply x k = (j : ℕ) → 1 ≤ j → j < k → AtPower value can_multiply x j

-- it is not: some power below the k-th has no product with x
pub record CannotRaise {Q : Type 0} (value : Q → ℚ) (can_multiply : Q → Q → Type 0) (x : Q) (k : ℕ) : Type 0 where
  pub exponent : ℕ
  pub from_one : 1 ≤ exponent
  pub below : exponent < k
  pub refused : AtPower value (λ power x. ¬ can_multiply power x) x exponent
