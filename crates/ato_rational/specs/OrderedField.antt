-- The rational values are an ordered field, with least, greatest and absolute values and powers as one expects.
use Rattle.std.specs.Prelude.{◌≡◌, ◌⊎◌, ℕ, suc}
use Rattle.ato_rational.specs.Rational.{ℚ, ◌≈ℚ◌, ◌≤ℚ◌, ◌<ℚ◌, ◌+ℚ◌, ◌*ℚ◌, ◌/ℚ◌, neg_ℚ, inverse_ℚ, min_ℚ, max_ℚ, abs_ℚ, power_ℚ, IsNotZero, zero_ℚ, one_ℚ}

-- equal values may stand for each other
pub record IsEquality : Type 0 where
  pub itself : (x : ℚ) → x ≈ℚ x
  pub turned : (x y : ℚ) → x ≈ℚ y → y ≈ℚ x
  pub chained : (x y z : ℚ) → x ≈ℚ y → y ≈ℚ z → x ≈ℚ z
  pub sums : (x y z w : ℚ) → x ≈ℚ y → z ≈ℚ w → x +ℚ z ≈ℚ y +ℚ w
  pub opposites : (x y : ℚ) → x ≈ℚ y → neg_ℚ x ≈ℚ neg_ℚ y
  pub products : (x y z w : ℚ) → x ≈ℚ y → z ≈ℚ w → x *ℚ z ≈ℚ y *ℚ w
  pub inverses : (x y : ℚ) → IsNotZero x → x ≈ℚ y → inverse_ℚ x ≈ℚ inverse_ℚ y

pub record IsField : Type 0 where
  pub sums_turn : (x y : ℚ) → x +ℚ y ≈ℚ y +ℚ x
  pub sums_group : (x y z : ℚ) → (x +ℚ y) +ℚ z ≈ℚ x +ℚ (y +ℚ z)
  pub zero : (x : ℚ) → x +ℚ zero_ℚ ≈ℚ x
  pub opposite : (x : ℚ) → x +ℚ neg_ℚ x ≈ℚ zero_ℚ
  pub products_turn : (x y : ℚ) → x *ℚ y ≈ℚ y *ℚ x
  pub products_group : (x y z : ℚ) → (x *ℚ y) *ℚ z ≈ℚ x *ℚ (y *ℚ z)
  pub one : (x : ℚ) → x *ℚ one_ℚ ≈ℚ x
  pub distributes : (x y z : ℚ) → x *ℚ (y +ℚ z) ≈ℚ x *ℚ y +ℚ x *ℚ z
  pub quotient : (x y : ℚ) → IsNotZero y → (x /ℚ y) *ℚ y ≈ℚ x

pub record IsOrder : Type 0 where
  pub itself : (x : ℚ) → x ≤ℚ x
  pub chained : (x y z : ℚ) → x ≤ℚ y → y ≤ℚ z → x ≤ℚ z
  pub both_ways : (x y : ℚ) → x ≤ℚ y → y ≤ℚ x → x ≈ℚ y
  pub total : (x y : ℚ) → (x ≤ℚ y) ⊎ (y <ℚ x)
  pub strict : (x y : ℚ) → x <ℚ y → (x ≤ℚ y) × ¬ (y ≤ℚ x)
  pub of_equals : (x y : ℚ) → x ≈ℚ y → x ≤ℚ y
  pub sums : (x y z w : ℚ) → x ≤ℚ y → z ≤ℚ w → x +ℚ z ≤ℚ y +ℚ w
  pub products : (x y z : ℚ) → zero_ℚ ≤ℚ z → x ≤ℚ y → x *ℚ z ≤ℚ y *ℚ z
  pub one : zero_ℚ <ℚ one_ℚ

pub record AreExtremes : Type 0 where
  pub least : (x y : ℚ) → (min_ℚ x y ≤ℚ x) × (min_ℚ x y ≤ℚ y) × ((min_ℚ x y ≡ x) ⊎ (min_ℚ x y ≡ y))
  pub greatest : (x y : ℚ) → (x ≤ℚ max_ℚ x y) × (y ≤ℚ max_ℚ x y) × ((max_ℚ x y ≡ x) ⊎ (max_ℚ x y ≡ y))
  pub absolute : (x : ℚ) → (zero_ℚ ≤ℚ abs_ℚ x) × ((abs_ℚ x ≡ x) ⊎ (abs_ℚ x ≡ neg_ℚ x))
  pub power_none : (x : ℚ) → power_ℚ x 0 ≈ℚ one_ℚ
  pub power_more : (x : ℚ) (k : ℕ) → power_ℚ x (suc k) ≈ℚ x *ℚ power_ℚ x k

pub record IsOrderedField : Type 0 where
  pub equality : IsEquality
  pub field : IsField
  pub order : IsOrder
  pub extremes : AreExtremes
