-- Powers of rationals, and where powers of values in an interval lie.
use Rattle.std.proofs.Common.{◌≡◌, ℕ, zero, suc, ◌*◌, ⊎_elim, arith}
use Rattle.ato_rational.specs.Rational.{ℚ, ◌≈ℚ◌, ◌≤ℚ◌, ◌*ℚ◌, neg_ℚ, power_ℚ, zero_ℚ, one_ℚ}
use Rattle.ato_rational.specs.Ranges.{IsWithin}
use Rattle.ato_rational.proofs.RationalRing.{rat, minus, ◌⊠◌, same, at_most}
use Rattle.ato_rational.proofs.Signs.{opposite_not_negative, turned_back}
use Rattle.ato_rational.proofs.Order.{≤ℚ_refl, ≤ℚ_trans, ≤ℚ_total, ≈ℚ-≤ℚ, ≈ℚ_sym, ≈ℚ_trans, neg_ℚ_anti, *ℚ_mono, *ℚ_mono_second, *ℚ_same_second}

zero_below_one : zero_ℚ ≤ℚ one_ℚ
zero_below_one = at_most (rat zero_ℚ) (rat one_ℚ) (omega arith)

pub times_zero : (x : ℚ) → x *ℚ zero_ℚ ≈ℚ zero_ℚ
times_zero x = same (rat x ⊠ rat zero_ℚ) (rat zero_ℚ) (omega arith)

pub power_not_negative : (x : ℚ) (k : ℕ) → zero_ℚ ≤ℚ x → zero_ℚ ≤ℚ power_ℚ x k
power_not_negative x zero s = zero_below_one
power_not_negative x (suc k) s =
    ≤ℚ_trans (≈ℚ-≤ℚ (≈ℚ_sym (times_zero x))) (*ℚ_mono_second x s (power_not_negative x k s))

-- powers rise where the base is not negative
pub power_mono : (x y : ℚ) (k : ℕ) → zero_ℚ ≤ℚ x → x ≤ℚ y → power_ℚ x k ≤ℚ power_ℚ y k
power_mono x y zero s h = ≤ℚ_refl one_ℚ
power_mono x y (suc k) s h =
    ≤ℚ_trans (*ℚ_mono (power_ℚ x k) (power_not_negative x k s) h) (*ℚ_mono_second y (≤ℚ_trans s h) (power_mono x y k s h))

-- even powers forget the sign, and odd powers keep it
two_turns : (x p q : ℚ) → p ≈ℚ q → neg_ℚ x *ℚ (neg_ℚ x *ℚ p) ≈ℚ x *ℚ (x *ℚ q)
two_turns x p q e =
    ≈ℚ_trans (same (minus (rat x) ⊠ (minus (rat x) ⊠ rat p)) (rat x ⊠ (rat x ⊠ rat p)) (omega arith))
    (*ℚ_same_second x (*ℚ_same_second x e))

pub even_power_turned : (x : ℚ) (j : ℕ) → power_ℚ (neg_ℚ x) (2 * j) ≈ℚ power_ℚ x (2 * j)
even_power_turned x zero = same (rat one_ℚ) (rat one_ℚ) (omega arith)
even_power_turned x (suc j) =
    let e : 2 * suc j ≡ suc (suc (2 * j)) = omega arith in
    rw e (two_turns x _ _ (even_power_turned x j))

pub even_power_not_negative : (x : ℚ) (j : ℕ) → zero_ℚ ≤ℚ power_ℚ x (2 * j)
even_power_not_negative x j =
    ⊎_elim
    (λ s. power_not_negative x (2 * j) s)
    (λ s. ≤ℚ_trans (power_not_negative (neg_ℚ x) (2 * j) (opposite_not_negative s)) (≈ℚ-≤ℚ (even_power_turned x j)))
    (≤ℚ_total zero_ℚ x)

-- an even power of a value from a to b lies from 0 to what is above those of a and b
pub even_power_within : (a b h x : ℚ) (j : ℕ) → power_ℚ a (2 * j) ≤ℚ h → power_ℚ b (2 * j) ≤ℚ h → IsWithin a b x → IsWithin zero_ℚ h (power_ℚ x (2 * j))
even_power_within a b h x j p q w =
    record {
      above = even_power_not_negative x j;
      below = ⊎_elim
          (λ s. ≤ℚ_trans (power_mono x b (2 * j) s w.below) q)
          (λ s. ≤ℚ_trans (≈ℚ-≤ℚ (≈ℚ_sym (even_power_turned x j)))
          (≤ℚ_trans (power_mono (neg_ℚ x) (neg_ℚ a) (2 * j) (opposite_not_negative s) (neg_ℚ_anti w.above))
          (≤ℚ_trans (≈ℚ-≤ℚ (even_power_turned a j)) p)))
          (≤ℚ_total zero_ℚ x);
    }

-- odd powers rise everywhere

pub odd_power_turned : (x : ℚ) (j : ℕ) → power_ℚ (neg_ℚ x) (suc (2 * j)) ≈ℚ neg_ℚ (power_ℚ x (suc (2 * j)))
odd_power_turned x j =
    ≈ℚ_trans (*ℚ_same_second (neg_ℚ x) (even_power_turned x j))
    (same (minus (rat x) ⊠ rat (power_ℚ x (2 * j))) (minus (rat x ⊠ rat (power_ℚ x (2 * j)))) (omega arith))

pub odd_power_not_positive : (x : ℚ) (j : ℕ) → x ≤ℚ zero_ℚ → power_ℚ x (suc (2 * j)) ≤ℚ zero_ℚ
odd_power_not_positive x j s =
    ≤ℚ_trans (*ℚ_mono (power_ℚ x (2 * j)) (even_power_not_negative x j) s)
    (≈ℚ-≤ℚ (same (rat zero_ℚ ⊠ rat (power_ℚ x (2 * j))) (rat zero_ℚ) (omega arith)))

pub odd_power_mono : (x y : ℚ) (j : ℕ) → x ≤ℚ y → power_ℚ x (suc (2 * j)) ≤ℚ power_ℚ y (suc (2 * j))
odd_power_mono x y j h =
    ⊎_elim
    (λ above. power_mono x y (suc (2 * j)) above h)
    (λ below.
    ⊎_elim
    (λ above. ≤ℚ_trans (odd_power_not_positive x j below) (power_not_negative y (suc (2 * j)) above))
    (λ under.
    turned_back
    (≤ℚ_trans (≈ℚ-≤ℚ (≈ℚ_sym (odd_power_turned y j)))
    (≤ℚ_trans (power_mono (neg_ℚ y) (neg_ℚ x) (suc (2 * j)) (opposite_not_negative under) (neg_ℚ_anti h))
    (≈ℚ-≤ℚ (odd_power_turned x j)))))
    (≤ℚ_total zero_ℚ y))
    (≤ℚ_total zero_ℚ x)
