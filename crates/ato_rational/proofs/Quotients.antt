-- Quotients of rationals, and where quotients of values in two intervals lie.
use Rattle.std.proofs.Common.{◌≡◌, ◌≢◌, ℕ, zero, suc, ◌*◌, ◌<◌, ℤ, pos, negsuc, ◌*ℤ◌, ◌≤ℤ◌, ◌<ℤ◌, ◌⊎◌, inl, inr, ⊎_elim, refl, arith}
use Rattle.std.proofs.lemmas.Int.{ints}
use Rattle.ato_rational.specs.Rational.{ℚ, ◌≈ℚ◌, ◌≤ℚ◌, ◌<ℚ◌, ◌*ℚ◌, ◌/ℚ◌, inverse_of, inverse_ℚ, IsNotZero, zero_ℚ, one_ℚ}
use Rattle.ato_rational.specs.Ranges.{IsWithin, AtEnds, IsQuotient}
use Rattle.ato_rational.proofs.Ring as Ring
use Rattle.ato_rational.proofs.Ring.{int, nat, opp, ◌⊕◌, ◌⊗◌}
use Rattle.ato_rational.proofs.RationalRing.{rat, ◌⊠◌, same, from_same}
use Rattle.ato_rational.proofs.Order.{≤ℚ_refl, ≤ℚ_antisymm, ≤ℚ_trans, ≤ℚ_or_<ℚ, <ℚ-≤ℚ, <ℚ-≤ℚ_trans, ≤ℚ-<ℚ_trans, ≈ℚ-≤ℚ, ≈ℚ_sym, ≈ℚ_trans, clash_ℚ, *ℚ_comm, *ℚ_mono_second, *ℚ_anti_second, *ℚ_same_second, *ℚ_cancel, IsWithin-same}
use Rattle.ato_rational.proofs.Products.{product_within}

-- 1 / y times y is 1, unless y is 0
times_inverse : (n : ℤ) (d : ℕ) → n ≢ pos 0 → (inverse_of n d).num *ℤ n *ℤ pos 1 ≡ pos 1 *ℤ pos ((inverse_of n d).den * d)
times_inverse (pos zero) d h = absurd (h refl)
times_inverse (pos (suc n)) d h = Ring.same (nat d ⊗ nat (suc n) ⊗ nat 1) (nat 1 ⊗ nat (suc n * d)) (omega arith)
times_inverse (negsuc n) d h = Ring.same (opp (nat d) ⊗ opp (nat (suc n)) ⊗ nat 1) (nat 1 ⊗ nat (suc n * d)) (omega arith)

pub inverse_times : (y : ℚ) → y.num ≢ pos 0 → inverse_ℚ y *ℚ y ≈ℚ one_ℚ
inverse_times y h = record { same = times_inverse y.num y.den h }

-- inverses of two positive or two negative numbers are in the other order
rise_to : ℤ → ℤ → ℕ → ℕ → Type 0
rise_to m n b d = ((inverse_of n d).num *ℤ pos (inverse_of m b).den) ≤ℤ ((inverse_of m b).num *ℤ pos (inverse_of n d).den)

above_zero : (m n : ℤ) (b d : ℕ) → 0 < d → pos 0 <ℤ m → (m *ℤ pos d) ≤ℤ (n *ℤ pos b) → rise_to m n b d
unfolding rise_to
above_zero (pos zero) n b d p s h = absurd (omega (arith, ints))
above_zero (pos (suc m)) (pos zero) b d p s h =
    let k = Ring.from_at_most (nat (suc m) ⊗ nat d) (nat 0 ⊗ nat b) h in
    absurd (omega arith)
above_zero (pos (suc m)) (pos (suc n)) b d p s h =
    let k = Ring.from_at_most (nat (suc m) ⊗ nat d) (nat (suc n) ⊗ nat b) h in
    Ring.at_most (nat d ⊗ nat (suc m)) (nat b ⊗ nat (suc n)) (omega arith)
above_zero (pos (suc m)) (negsuc n) b d p s h =
    let k = Ring.from_at_most (nat (suc m) ⊗ nat d) (opp (nat (suc n)) ⊗ nat b) h in
    absurd (omega arith)
above_zero (negsuc m) n b d p s h = absurd (omega (arith, ints))

below_zero : (m n : ℤ) (b d : ℕ) → 0 < b → n <ℤ pos 0 → (m *ℤ pos d) ≤ℤ (n *ℤ pos b) → rise_to m n b d
unfolding rise_to
below_zero m (pos n) b d p s h = absurd (omega (arith, ints))
below_zero (pos m) (negsuc n) b d p s h =
    let k = Ring.from_at_most (nat m ⊗ nat d) (opp (nat (suc n)) ⊗ nat b) h in
    absurd (omega arith)
below_zero (negsuc m) (negsuc n) b d p s h =
    let k = Ring.from_at_most (opp (nat (suc m)) ⊗ nat d) (opp (nat (suc n)) ⊗ nat b) h in
    Ring.at_most (opp (nat d) ⊗ nat (suc m)) (opp (nat b) ⊗ nat (suc n)) (omega arith)

pub num_positive : {x : ℚ} → zero_ℚ <ℚ x → pos 0 <ℤ x.num
num_positive {x} h =
    let p = Ring.from_below (nat 0 ⊗ nat x.den) (int x.num ⊗ nat 1) h.lt in
    Ring.below (nat 0) (int x.num) (omega arith)

pub num_negative : {x : ℚ} → x <ℚ zero_ℚ → x.num <ℤ pos 0
num_negative {x} h =
    let p = Ring.from_below (int x.num ⊗ nat 1) (nat 0 ⊗ nat x.den) h.lt in
    Ring.below (int x.num) (nat 0) (omega arith)

pub inverse_ℚ_anti_above : {x y : ℚ} → zero_ℚ <ℚ x → x ≤ℚ y → inverse_ℚ y ≤ℚ inverse_ℚ x
unfolding rise_to
inverse_ℚ_anti_above {x} {y} s h = record { le = above_zero x.num y.num x.den y.den y.positive (num_positive s) h.le }

pub inverse_ℚ_anti_below : {x y : ℚ} → y <ℚ zero_ℚ → x ≤ℚ y → inverse_ℚ y ≤ℚ inverse_ℚ x
unfolding rise_to
inverse_ℚ_anti_below {x} {y} s h = record { le = below_zero x.num y.num x.den y.den x.positive (num_negative s) h.le }

-- 1 / y lies between 1 / d and 1 / c, for y from c to d, where c and d are on one side of 0
pub inverse_within : (c d y : ℚ) → (zero_ℚ <ℚ c) ⊎ (d <ℚ zero_ℚ) → IsWithin c d y → IsWithin (inverse_ℚ d) (inverse_ℚ c) (inverse_ℚ y)
inverse_within c d y s w =
    ⊎_elim
    (λ p. record { above = inverse_ℚ_anti_above (<ℚ-≤ℚ_trans p w.above) w.below; below = inverse_ℚ_anti_above p w.above })
    (λ n. record { above = inverse_ℚ_anti_below n w.below; below = inverse_ℚ_anti_below (≤ℚ-<ℚ_trans w.below n) w.above })
    s

-- what holds the four quotients of ends holds every quotient
pub quotient_within : (l h a b c d x y : ℚ) → (zero_ℚ <ℚ c) ⊎ (d <ℚ zero_ℚ) → AtEnds (λ p q. IsWithin l h (p /ℚ q)) a b c d → IsWithin a b x → IsWithin c d y → IsWithin l h (x /ℚ y)
quotient_within l h a b c d x y s e v w =
    product_within l h a b (inverse_ℚ d) (inverse_ℚ c) x (inverse_ℚ y)
    (record { low_low = e.low_high; low_high = e.low_low; high_low = e.high_high; high_high = e.high_low })
    v
    (inverse_within c d y s w)

pub nonzero : {x : ℚ} → (zero_ℚ <ℚ x) ⊎ (x <ℚ zero_ℚ) → x.num ≢ pos 0
nonzero {x} (inl h) e = let p = num_positive h in omega (arith, ints)
nonzero {x} (inr h) e = let p = num_negative h in omega (arith, ints)

-- a quotient times its divisor is the dividend
pub quotient_times : (x y : ℚ) → (zero_ℚ <ℚ y) ⊎ (y <ℚ zero_ℚ) → (x /ℚ y) *ℚ y ≈ℚ x
quotient_times x y h =
    ≈ℚ_trans (same (rat x ⊠ rat (inverse_ℚ y) ⊠ rat y) (rat x ⊠ (rat (inverse_ℚ y) ⊠ rat y)) (omega arith))
    (≈ℚ_trans (*ℚ_same_second x (inverse_times y (nonzero h))) (same (rat x ⊠ rat one_ℚ) (rat x) (omega arith)))

-- the x that are not negative among the quotients of values from l to h by values from c to d
pub IsQuotient_out : (l h c d x : ℚ) → zero_ℚ ≤ℚ x → IsQuotient l h c d x → (x *ℚ c ≤ℚ h) × (l ≤ℚ x *ℚ d)
IsQuotient_out l h c d x s q =
    (≤ℚ_trans (*ℚ_mono_second x s q.by_within.above) q.product_within.below, ≤ℚ_trans q.product_within.above (*ℚ_mono_second x s q.by_within.below))

pub IsQuotient_in : (l h c d x : ℚ) → l ≤ℚ h → c ≤ℚ d → zero_ℚ ≤ℚ x → x *ℚ c ≤ℚ h → l ≤ℚ x *ℚ d → IsQuotient l h c d x
IsQuotient_in l h c d x lh cd s p q =
    ⊎_elim
    (λ at_c. record {
      by = c;
      by_within = record { above = ≤ℚ_refl c; below = cd };
      product_within = record { above = at_c; below = p };
    })
    (λ above_c.
    let positive : zero_ℚ <ℚ x = ⊎_elim (λ n. absurd (clash_ℚ (<ℚ-≤ℚ_trans above_c q) (*ℚ_anti_second x n cd))) (λ k. k) (≤ℚ_or_<ℚ x zero_ℚ) in
    let back : (l /ℚ x) *ℚ x ≈ℚ l = quotient_times l x (inl positive) in
    record {
      by = l /ℚ x;
      by_within = record {
        above = *ℚ_cancel x positive (≤ℚ_trans (≈ℚ-≤ℚ (*ℚ_comm c x)) (≤ℚ_trans (<ℚ-≤ℚ above_c) (≈ℚ-≤ℚ (≈ℚ_sym back))));
        below = *ℚ_cancel x positive (≤ℚ_trans (≈ℚ-≤ℚ back) (≤ℚ_trans q (≈ℚ-≤ℚ (*ℚ_comm x d))));
      };
      product_within = IsWithin-same (≈ℚ_trans (≈ℚ_sym back) (*ℚ_comm (l /ℚ x) x)) (record { above = ≤ℚ_refl l; below = lh });
    })
    (≤ℚ_or_<ℚ l (x *ℚ c))

-- a value that equals one above or below 0 is there too
pub not_zero_same : {x y : ℚ} → IsNotZero x → x ≈ℚ y → IsNotZero y
not_zero_same (inl h) e = inl (<ℚ-≤ℚ_trans h (≈ℚ-≤ℚ e))
not_zero_same (inr h) e = inr (≤ℚ-<ℚ_trans (≈ℚ-≤ℚ (≈ℚ_sym e)) h)

-- only 0 has the numerator 0
pub not_zero : (x : ℚ) → x.num ≢ pos 0 → IsNotZero x
not_zero x h =
    ⊎_elim
    (λ low.
    ⊎_elim
    (λ high.
    let p = from_same (rat x) (rat zero_ℚ) (≤ℚ_antisymm low high) in
    absurd (h (Ring.same (int x.num) (nat 0) (omega arith))))
    (λ k. inr k)
    (≤ℚ_or_<ℚ zero_ℚ x))
    (λ k. inl k)
    (≤ℚ_or_<ℚ x zero_ℚ)

pub ends_not_zero : {l h : ℚ} → l ≤ℚ h → (zero_ℚ <ℚ l) ⊎ (h <ℚ zero_ℚ) → IsNotZero l × IsNotZero h
ends_not_zero o (inl p) = (inl p, inl (<ℚ-≤ℚ_trans p o))
ends_not_zero o (inr p) = (inr (≤ℚ-<ℚ_trans o p), inr p)
