-- The lesser and the greater of two rationals, and absolute values.
use Rattle.std.proofs.Common.{◌≡◌, ◌⊎◌, inl, inr, ℤ, ◌≤ℤ◌, ◌<ℤ◌, Bool, true, false, refl, ⊎_elim, arith}
use Rattle.std.specs.Prelude.{int_le}
use Rattle.std.proofs.lemmas.Int.{ints}
use Rattle.ato_rational.specs.Rational.{ℚ, ◌≤ℚ◌, ◌<ℚ◌, neg_ℚ, le_ℚ, min_ℚ, max_ℚ, abs_ℚ, zero_ℚ}
use Rattle.ato_rational.proofs.Order.{≤ℚ_refl, ≤ℚ_trans, ≤ℚ_total, <ℚ-≤ℚ}
use Rattle.ato_rational.proofs.Signs.{opposite_not_negative}

-- the test of the order tells it
le_true : (x y : ℤ) → int_le x y ≡ true → x ≤ℤ y
le_true x y h = omega (arith, ints)

le_false : (x y : ℤ) → int_le x y ≡ false → y <ℤ x
le_false x y h = omega (arith, ints)

tested : (x y : ℚ) → ((le_ℚ x y ≡ true) × (x ≤ℚ y)) ⊎ ((le_ℚ x y ≡ false) × (y <ℚ x))
tested x y = by (le_ℚ x y) refl
  where
    by : (b : Bool) → le_ℚ x y ≡ b → ((b ≡ true) × (x ≤ℚ y)) ⊎ ((b ≡ false) × (y <ℚ x))
    by true e = inl (refl, record { le = le_true _ _ e })
    by false e = inr (refl, record { lt = le_false _ _ e })

pub min_ℚ_least : (x y : ℚ) → (min_ℚ x y ≤ℚ x) × (min_ℚ x y ≤ℚ y) × ((min_ℚ x y ≡ x) ⊎ (min_ℚ x y ≡ y))
min_ℚ_least x y =
    ⊎_elim
    (λ t. rw t.0 (≤ℚ_refl x, t.1, inl refl))
    (λ t. rw t.0 (<ℚ-≤ℚ t.1, ≤ℚ_refl y, inr refl))
    (tested x y)

pub max_ℚ_greatest : (x y : ℚ) → (x ≤ℚ max_ℚ x y) × (y ≤ℚ max_ℚ x y) × ((max_ℚ x y ≡ x) ⊎ (max_ℚ x y ≡ y))
max_ℚ_greatest x y =
    ⊎_elim
    (λ t. rw t.0 (t.1, ≤ℚ_refl y, inr refl))
    (λ t. rw t.0 (≤ℚ_refl x, <ℚ-≤ℚ t.1, inl refl))
    (tested x y)

pub abs_ℚ_is : (x : ℚ) → (zero_ℚ ≤ℚ abs_ℚ x) × ((abs_ℚ x ≡ x) ⊎ (abs_ℚ x ≡ neg_ℚ x))
abs_ℚ_is x =
    let m = max_ℚ_greatest x (neg_ℚ x) in (
      ⊎_elim (λ h. ≤ℚ_trans h m.0) (λ h. ≤ℚ_trans (opposite_not_negative h) m.1) (≤ℚ_total zero_ℚ x),
      m.2,
    )

-- the lesser and the greater rise with both numbers

pub min_ℚ_above : (x y z : ℚ) → z ≤ℚ x → z ≤ℚ y → z ≤ℚ min_ℚ x y
min_ℚ_above x y z h k = ⊎_elim (λ e. rw e h) (λ e. rw e k) (min_ℚ_least x y).2

pub max_ℚ_below : (x y z : ℚ) → x ≤ℚ z → y ≤ℚ z → max_ℚ x y ≤ℚ z
max_ℚ_below x y z h k = ⊎_elim (λ e. rw e h) (λ e. rw e k) (max_ℚ_greatest x y).2

pub min_ℚ_mono : (x y z w : ℚ) → x ≤ℚ y → z ≤ℚ w → min_ℚ x z ≤ℚ min_ℚ y w
min_ℚ_mono x y z w h k =
    let m = min_ℚ_least x z in
    min_ℚ_above y w (min_ℚ x z) (≤ℚ_trans m.0 h) (≤ℚ_trans m.1 k)

pub max_ℚ_mono : (x y z w : ℚ) → x ≤ℚ y → z ≤ℚ w → max_ℚ x z ≤ℚ max_ℚ y w
max_ℚ_mono x y z w h k =
    let m = max_ℚ_greatest y w in
    max_ℚ_below x z (max_ℚ y w) (≤ℚ_trans h m.0) (≤ℚ_trans k m.1)

-- an absolute value is at most any number that is at least x and its opposite
pub abs_ℚ_below : (x z : ℚ) → x ≤ℚ z → neg_ℚ x ≤ℚ z → abs_ℚ x ≤ℚ z
abs_ℚ_below x z h k = max_ℚ_below x (neg_ℚ x) z h k
