-- Sums, products and quotients of rationals are those of a field.
use Rattle.std.proofs.Common.{arith}
use Rattle.ato_rational.specs.Rational.{ℚ, ◌≈ℚ◌, ◌<ℚ◌, ◌+ℚ◌, ◌*ℚ◌, neg_ℚ, inverse_ℚ, IsNotZero, zero_ℚ, one_ℚ}
use Rattle.ato_rational.proofs.RationalRing.{rat, minus, ◌⊞◌, ◌⊠◌, same, below}
use Rattle.ato_rational.proofs.Order.{≈ℚ_sym, ≈ℚ_trans, *ℚ_same_second}
use Rattle.ato_rational.proofs.Quotients.{inverse_times, nonzero, not_zero_same}

pub +ℚ_comm : (x y : ℚ) → x +ℚ y ≈ℚ y +ℚ x
+ℚ_comm x y = same (rat x ⊞ rat y) (rat y ⊞ rat x) (omega arith)

pub +ℚ_assoc : (x y z : ℚ) → (x +ℚ y) +ℚ z ≈ℚ x +ℚ (y +ℚ z)
+ℚ_assoc x y z = same (rat x ⊞ rat y ⊞ rat z) (rat x ⊞ (rat y ⊞ rat z)) (omega arith)

pub +ℚ_zero : (x : ℚ) → x +ℚ zero_ℚ ≈ℚ x
+ℚ_zero x = same (rat x ⊞ rat zero_ℚ) (rat x) (omega arith)

pub +ℚ_neg : (x : ℚ) → x +ℚ neg_ℚ x ≈ℚ zero_ℚ
+ℚ_neg x = same (rat x ⊞ minus (rat x)) (rat zero_ℚ) (omega arith)

pub *ℚ_assoc : (x y z : ℚ) → (x *ℚ y) *ℚ z ≈ℚ x *ℚ (y *ℚ z)
*ℚ_assoc x y z = same (rat x ⊠ rat y ⊠ rat z) (rat x ⊠ (rat y ⊠ rat z)) (omega arith)

pub *ℚ_one : (x : ℚ) → x *ℚ one_ℚ ≈ℚ x
*ℚ_one x = same (rat x ⊠ rat one_ℚ) (rat x) (omega arith)

pub *ℚ_+ℚ : (x y z : ℚ) → x *ℚ (y +ℚ z) ≈ℚ x *ℚ y +ℚ x *ℚ z
*ℚ_+ℚ x y z = same (rat x ⊠ (rat y ⊞ rat z)) (rat x ⊠ rat y ⊞ rat x ⊠ rat z) (omega arith)

pub zero_below_one : zero_ℚ <ℚ one_ℚ
zero_below_one = below (rat zero_ℚ) (rat one_ℚ) (omega arith)

-- equal values have equal inverses: 1 / x is (1 / x) ⋅ y ⋅ (1 / y)
pub inverse_ℚ_same : (x y : ℚ) → IsNotZero x → x ≈ℚ y → inverse_ℚ x ≈ℚ inverse_ℚ y
inverse_ℚ_same x y h e =
    let own = inverse_times x (nonzero h) in
    let other = inverse_times y (nonzero (not_zero_same h e)) in
    let i = inverse_ℚ x in
    let j = inverse_ℚ y in
    ≈ℚ_trans (≈ℚ_sym (*ℚ_one i))
    (≈ℚ_trans (*ℚ_same_second i (≈ℚ_sym other))
    (≈ℚ_trans (same (rat i ⊠ (rat j ⊠ rat y)) (rat j ⊠ (rat i ⊠ rat y)) (omega arith))
    (≈ℚ_trans (*ℚ_same_second j (≈ℚ_trans (*ℚ_same_second i (≈ℚ_sym e)) own)) (*ℚ_one j))))
