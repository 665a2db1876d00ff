-- The order of rationals, and what sums, opposites and products do to it.
use Rattle.std.proofs.Common.{◌≢◌, ◌+◌, ◌*◌, ◌≤◌, ◌⊎◌, inl, inr, ⊎_elim, arith, mul-le-mul_right, mul-lt-mul_of_pos_right, le_of_mul-le-mul_right, lt_of_mul-lt-mul_right, ap, refl, Ordering, Less, Equal, Greater}
use Rattle.std.proofs.lemmas.Int.{by_lt_z}
use borrow.Author.Differences.{up, down}
use Rattle.ato_rational.specs.Rational.{ℚ, ◌≈ℚ◌, ◌≤ℚ◌, ◌<ℚ◌, ◌+ℚ◌, neg_ℚ, ◌*ℚ◌, zero_ℚ, Orders}
use Rattle.ato_rational.specs.Ranges.{IsWithin}
use Rattle.ato_rational.proofs.Ring.{over, under, products, products_strict}
use Rattle.ato_rational.proofs.RationalRing.{rat, minus, ◌⊞◌, ◌⊠◌, cross, same, at_most, below, from_same, from_at_most, from_below}

pub ≤ℚ_refl : (x : ℚ) → x ≤ℚ x
≤ℚ_refl x = at_most (rat x) (rat x) (omega arith)

pub <ℚ-≤ℚ : {x y : ℚ} → x <ℚ y → x ≤ℚ y
<ℚ-≤ℚ {x} {y} h =
    let p = from_below (rat x) (rat y) h in
    at_most (rat x) (rat y) (omega arith)

pub ≈ℚ-≤ℚ : {x y : ℚ} → x ≈ℚ y → x ≤ℚ y
≈ℚ-≤ℚ {x} {y} e =
    let p = from_same (rat x) (rat y) e in
    at_most (rat x) (rat y) (omega arith)

pub ≤ℚ_antisymm : {x y : ℚ} → x ≤ℚ y → y ≤ℚ x → x ≈ℚ y
≤ℚ_antisymm {x} {y} h k =
    let p = from_at_most (rat x) (rat y) h in
    let q = from_at_most (rat y) (rat x) k in
    same (rat x) (rat y) (omega arith)

pub ≤ℚ_or_<ℚ : (x y : ℚ) → (x ≤ℚ y) ⊎ (y <ℚ x)
≤ℚ_or_<ℚ x y = by_lt_z _ _ (λ h. inr (record { lt = h })) (λ h. inl (record { le = h }))

pub ≤ℚ_total : (x y : ℚ) → (x ≤ℚ y) ⊎ (y ≤ℚ x)
≤ℚ_total x y = ⊎_elim inl (λ h. inr (<ℚ-≤ℚ h)) (≤ℚ_or_<ℚ x y)

-- two orders that cannot both hold
pub clash_ℚ : {x y : ℚ} → x <ℚ y → y ≤ℚ x → ⊥
clash_ℚ {x} {y} h k =
    let p = from_below (rat x) (rat y) h in
    let q = from_at_most (rat y) (rat x) k in
    omega arith

pub ≤ℚ_trans : {x y z : ℚ} → x ≤ℚ y → y ≤ℚ z → x ≤ℚ z
≤ℚ_trans {x} {y} {z} h k =
    let p = mul-le-mul_right z.den (from_at_most (rat x) (rat y) h) in
    let q = mul-le-mul_right x.den (from_at_most (rat y) (rat z) k) in
    let scaled : (over (cross (rat x) (rat z)) + under (cross (rat z) (rat x))) * y.den ≤ (over (cross (rat z) (rat x)) + under (cross (rat x) (rat z))) * y.den = omega arith in
    at_most (rat x) (rat z) (le_of_mul-le-mul_right scaled y.positive)

pub <ℚ-≤ℚ_trans : {x y z : ℚ} → x <ℚ y → y ≤ℚ z → x <ℚ z
<ℚ-≤ℚ_trans {x} {y} {z} h k =
    let p = mul-lt-mul_of_pos_right (from_below (rat x) (rat y) h) z.positive in
    let q = mul-le-mul_right x.den (from_at_most (rat y) (rat z) k) in
    below (rat x) (rat z) (lt_of_mul-lt-mul_right y.den (omega arith))

pub ≤ℚ-<ℚ_trans : {x y z : ℚ} → x ≤ℚ y → y <ℚ z → x <ℚ z
≤ℚ-<ℚ_trans {x} {y} {z} h k =
    let p = mul-le-mul_right z.den (from_at_most (rat x) (rat y) h) in
    let q = mul-lt-mul_of_pos_right (from_below (rat y) (rat z) k) x.positive in
    below (rat x) (rat z) (lt_of_mul-lt-mul_right y.den (omega arith))

pub ≈ℚ_refl : (x : ℚ) → x ≈ℚ x
≈ℚ_refl x = same (rat x) (rat x) (omega arith)

pub ≈ℚ_sym : {x y : ℚ} → x ≈ℚ y → y ≈ℚ x
≈ℚ_sym {x} {y} e =
    let p = from_same (rat x) (rat y) e in
    same (rat y) (rat x) (omega arith)

pub ≈ℚ_trans : {x y z : ℚ} → x ≈ℚ y → y ≈ℚ z → x ≈ℚ z
≈ℚ_trans d e = ≤ℚ_antisymm (≤ℚ_trans (≈ℚ-≤ℚ d) (≈ℚ-≤ℚ e)) (≤ℚ_trans (≈ℚ-≤ℚ (≈ℚ_sym e)) (≈ℚ-≤ℚ (≈ℚ_sym d)))

pub +ℚ_mono : {x y z w : ℚ} → x ≤ℚ y → z ≤ℚ w → x +ℚ z ≤ℚ y +ℚ w
+ℚ_mono {x} {y} {z} {w} h k =
    let p = mul-le-mul_right (z.den * w.den) (from_at_most (rat x) (rat y) h) in
    let q = mul-le-mul_right (x.den * y.den) (from_at_most (rat z) (rat w) k) in
    at_most (rat x ⊞ rat z) (rat y ⊞ rat w) (omega arith)

pub neg_ℚ_anti : {x y : ℚ} → x ≤ℚ y → neg_ℚ y ≤ℚ neg_ℚ x
neg_ℚ_anti {x} {y} h =
    let p = from_at_most (rat x) (rat y) h in
    at_most (minus (rat y)) (minus (rat x)) (omega arith)

pub +ℚ_same : {x y z w : ℚ} → x ≈ℚ y → z ≈ℚ w → x +ℚ z ≈ℚ y +ℚ w
+ℚ_same d e = ≤ℚ_antisymm (+ℚ_mono (≈ℚ-≤ℚ d) (≈ℚ-≤ℚ e)) (+ℚ_mono (≈ℚ-≤ℚ (≈ℚ_sym d)) (≈ℚ-≤ℚ (≈ℚ_sym e)))

pub neg_ℚ_same : {x y : ℚ} → x ≈ℚ y → neg_ℚ x ≈ℚ neg_ℚ y
neg_ℚ_same e = ≤ℚ_antisymm (neg_ℚ_anti (≈ℚ-≤ℚ (≈ℚ_sym e))) (neg_ℚ_anti (≈ℚ-≤ℚ e))

pub *ℚ_comm : (x y : ℚ) → x *ℚ y ≈ℚ y *ℚ x
*ℚ_comm x y = same (rat x ⊠ rat y) (rat y ⊠ rat x) (omega arith)

pub *ℚ_same_second : (z : ℚ) {x y : ℚ} → x ≈ℚ y → z *ℚ x ≈ℚ z *ℚ y
*ℚ_same_second z {x} {y} e =
    let p = from_same (rat x) (rat y) e in
    same (rat z ⊠ rat x) (rat z ⊠ rat y) (omega (arith, ap (λ n. n * (up z.num * z.den)) p, ap (λ n. n * (down z.num * z.den)) p))

pub *ℚ_same : {x y z w : ℚ} → x ≈ℚ y → z ≈ℚ w → x *ℚ z ≈ℚ y *ℚ w
*ℚ_same {x} {y} {z} {w} d e =
    ≈ℚ_trans (*ℚ_same_second x e) (≈ℚ_trans (*ℚ_comm x w) (≈ℚ_trans (*ℚ_same_second w d) (*ℚ_comm w y)))

-- a product with a factor that is not negative, and with one that is not positive
pub *ℚ_mono : {x y : ℚ} (z : ℚ) → zero_ℚ ≤ℚ z → x ≤ℚ y → x *ℚ z ≤ℚ y *ℚ z
*ℚ_mono {x} {y} z s h =
    let n = from_at_most (rat zero_ℚ) (rat z) s in
    let p = products _ _ (down z.num) (up z.num) (from_at_most (rat x) (rat y) h) (omega arith) in
    let q = mul-le-mul_right z.den p in
    at_most (rat x ⊠ rat z) (rat y ⊠ rat z) (omega arith)

pub *ℚ_mono_strict : {x y : ℚ} (z : ℚ) → zero_ℚ <ℚ z → x <ℚ y → x *ℚ z <ℚ y *ℚ z
*ℚ_mono_strict {x} {y} z s h =
    let n = from_below (rat zero_ℚ) (rat z) s in
    let p = products_strict _ _ (down z.num) (up z.num) (from_below (rat x) (rat y) h) (omega arith) in
    let q = mul-lt-mul_of_pos_right p z.positive in
    below (rat x ⊠ rat z) (rat y ⊠ rat z) (omega arith)

pub *ℚ_anti : {x y : ℚ} (z : ℚ) → z ≤ℚ zero_ℚ → x ≤ℚ y → y *ℚ z ≤ℚ x *ℚ z
*ℚ_anti {x} {y} z s h =
    let n = from_at_most (rat z) (rat zero_ℚ) s in
    let p = products _ _ (up z.num) (down z.num) (from_at_most (rat x) (rat y) h) (omega arith) in
    let q = mul-le-mul_right z.den p in
    at_most (rat y ⊠ rat z) (rat x ⊠ rat z) (omega arith)

pub *ℚ_mono_second : {x y : ℚ} (z : ℚ) → zero_ℚ ≤ℚ z → x ≤ℚ y → z *ℚ x ≤ℚ z *ℚ y
*ℚ_mono_second {x} {y} z s h = ≤ℚ_trans (≈ℚ-≤ℚ (*ℚ_comm z x)) (≤ℚ_trans (*ℚ_mono z s h) (≈ℚ-≤ℚ (*ℚ_comm y z)))

pub *ℚ_anti_second : {x y : ℚ} (z : ℚ) → z ≤ℚ zero_ℚ → x ≤ℚ y → z *ℚ y ≤ℚ z *ℚ x
*ℚ_anti_second {x} {y} z s h = ≤ℚ_trans (≈ℚ-≤ℚ (*ℚ_comm z y)) (≤ℚ_trans (*ℚ_anti z s h) (≈ℚ-≤ℚ (*ℚ_comm x z)))

-- values that are given as sums, differences and products

pub +ℚ_given_mono : (x y z w r s : ℚ) → x ≤ℚ y → z ≤ℚ w → r ≈ℚ x +ℚ z → s ≈ℚ y +ℚ w → r ≤ℚ s
+ℚ_given_mono x y z w r s h k d e = ≤ℚ_trans (≈ℚ-≤ℚ d) (≤ℚ_trans (+ℚ_mono h k) (≈ℚ-≤ℚ (≈ℚ_sym e)))

-- a positive factor may be left out
pub *ℚ_cancel : {x y : ℚ} (z : ℚ) → zero_ℚ <ℚ z → x *ℚ z ≤ℚ y *ℚ z → x ≤ℚ y
*ℚ_cancel {x} {y} z s h = ⊎_elim (λ k. k) (λ k. absurd (clash_ℚ (*ℚ_mono_strict z s k) h)) (≤ℚ_or_<ℚ x y)

pub IsWithin-same : {l h x y : ℚ} → x ≈ℚ y → IsWithin l h x → IsWithin l h y
IsWithin-same e w = record { above = ≤ℚ_trans w.above (≈ℚ-≤ℚ e); below = ≤ℚ_trans (≈ℚ-≤ℚ (≈ℚ_sym e)) w.below }

pub Orders-not_greater : (x y : ℚ) (o : Ordering) → Orders x y o → o ≢ Greater → x ≤ℚ y
Orders-not_greater x y Less h n = <ℚ-≤ℚ h
Orders-not_greater x y Equal h n = ≈ℚ-≤ℚ h
Orders-not_greater x y Greater h n = absurd (n refl)

pub Orders-not_less : (x y : ℚ) (o : Ordering) → Orders x y o → o ≢ Less → y ≤ℚ x
Orders-not_less x y Less h n = absurd (n refl)
Orders-not_less x y Equal h n = ≈ℚ-≤ℚ (≈ℚ_sym h)
Orders-not_less x y Greater h n = <ℚ-≤ℚ h

-- chains of orders
pub ruleset chains = (≤ℚ_trans, ≈ℚ-≤ℚ)
