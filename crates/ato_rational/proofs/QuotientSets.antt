-- Which numbers are quotients of a value from l to h by a value from c to d.
use Rattle.std.proofs.Common.{◌≡◌, ℕ, zero, suc, ℤ, pos, negsuc, neg_ℤ, ◌*ℤ◌, ◌⊎◌, inl, inr, ⊎_elim, refl, arith}
use Rattle.ato_rational.specs.Rational.{ℚ, ◌≈ℚ◌, ◌≤ℚ◌, ◌<ℚ◌, ◌*ℚ◌, neg_ℚ, ◌/ℚ◌, IsNotZero, inverse_of, inverse_ℚ, zero_ℚ}
use Rattle.ato_rational.specs.Ranges.{IsWithin, AtEnds, IsQuotient}
use Rattle.ato_rational.proofs.Powers.{times_zero}
use Rattle.ato_rational.proofs.Signs.{opposite_not_negative, opposite_not_positive, opposite_positive}
use Rattle.ato_rational.proofs.Ring as Ring
use Rattle.ato_rational.proofs.Ring.{nat, opp, ◌⊗◌}
use Rattle.ato_rational.proofs.RationalRing.{rat, minus, ◌⊠◌, same, at_most, below, from_at_most, from_below}
use Rattle.ato_rational.proofs.Order.{≤ℚ_trans, ≤ℚ_total, ≤ℚ_or_<ℚ, <ℚ-≤ℚ, <ℚ-≤ℚ_trans, ≤ℚ-<ℚ_trans, ≈ℚ-≤ℚ, ≈ℚ_sym, ≈ℚ_trans, clash_ℚ, neg_ℚ_anti, *ℚ_mono, *ℚ_mono_second, *ℚ_anti_second, *ℚ_same_second, IsWithin-same}
use Rattle.ato_rational.proofs.Quotients.{quotient_within, quotient_times, IsQuotient_in}

-- a product divided by its second factor
pub times_quotient : (x y : ℚ) → IsNotZero y → (x *ℚ y) /ℚ y ≈ℚ x
times_quotient x y n =
    ≈ℚ_trans (same (rat x ⊠ rat y ⊠ rat (inverse_ℚ y)) (rat x ⊠ rat (inverse_ℚ y) ⊠ rat y) (omega arith)) (quotient_times x y n)

pub divisor_not_zero : {c d y : ℚ} → (zero_ℚ <ℚ c) ⊎ (d <ℚ zero_ℚ) → IsWithin c d y → IsNotZero y
divisor_not_zero (inl p) w = inl (<ℚ-≤ℚ_trans p w.above)
divisor_not_zero (inr p) w = inr (≤ℚ-<ℚ_trans w.below p)

-- each quotient lies among the quotients of ends
pub quotient_out : (lo hi l h c d x : ℚ) → (zero_ℚ <ℚ c) ⊎ (d <ℚ zero_ℚ) → AtEnds (λ p e. IsWithin lo hi (p /ℚ e)) l h c d → IsQuotient l h c d x → IsWithin lo hi x
quotient_out lo hi l h c d x s e q =
    IsWithin-same (times_quotient x q.by (divisor_not_zero s q.by_within))
    (quotient_within lo hi l h c d (x *ℚ q.by) q.by s e q.product_within q.by_within)

-- a quotient by a positive number, against x
pub quotient_below : (p e x : ℚ) → zero_ℚ <ℚ e → p <ℚ x *ℚ e → p /ℚ e <ℚ x
quotient_below p e x s h =
    ⊎_elim
    (λ k. absurd (clash_ℚ h (≤ℚ_trans (*ℚ_mono e (<ℚ-≤ℚ s) k) (≈ℚ-≤ℚ (quotient_times p e (inl s))))))
    (λ k. k)
    (≤ℚ_or_<ℚ x (p /ℚ e))

pub quotient_above : (p e x : ℚ) → zero_ℚ <ℚ e → x *ℚ e <ℚ p → x <ℚ p /ℚ e
quotient_above p e x s h =
    ⊎_elim
    (λ k. absurd (clash_ℚ h (≤ℚ_trans (≈ℚ-≤ℚ (≈ℚ_sym (quotient_times p e (inl s)))) (*ℚ_mono e (<ℚ-≤ℚ s) k))))
    (λ k. k)
    (≤ℚ_or_<ℚ (p /ℚ e) x)

module _ (l h c d x : ℚ) (lh : l ≤ℚ h) (cd : c ≤ℚ d) (positive : zero_ℚ <ℚ c) (not_negative : zero_ℚ ≤ℚ x) where
  low_side : ¬ AtEnds (λ p e. p /ℚ e <ℚ x) l h c d → x *ℚ c ≤ℚ h
  low_side none =
      ⊎_elim
      (λ k. k)
      (λ k.
      let at_d = <ℚ-≤ℚ_trans k (*ℚ_mono_second x not_negative cd) in
      let d_positive = <ℚ-≤ℚ_trans positive cd in
      absurd (none (record {
        low_low = quotient_below l c x positive (≤ℚ-<ℚ_trans lh k);
        low_high = quotient_below l d x d_positive (≤ℚ-<ℚ_trans lh at_d);
        high_low = quotient_below h c x positive k;
        high_high = quotient_below h d x d_positive at_d;
      })))
      (≤ℚ_or_<ℚ (x *ℚ c) h)

  high_side : ¬ AtEnds (λ p e. x <ℚ p /ℚ e) l h c d → l ≤ℚ x *ℚ d
  high_side none =
      ⊎_elim
      (λ k. k)
      (λ k.
      let at_c = ≤ℚ-<ℚ_trans (*ℚ_mono_second x not_negative cd) k in
      let d_positive = <ℚ-≤ℚ_trans positive cd in
      absurd (none (record {
        low_low = quotient_above l c x positive at_c;
        low_high = quotient_above l d x d_positive k;
        high_low = quotient_above h c x positive (<ℚ-≤ℚ_trans at_c lh);
        high_high = quotient_above h d x d_positive (<ℚ-≤ℚ_trans k lh);
      })))
      (≤ℚ_or_<ℚ l (x *ℚ d))

  -- x is a quotient where it is neither above nor below all four quotients of ends
  in_not_negative : ¬ AtEnds (λ p e. p /ℚ e <ℚ x) l h c d → ¬ AtEnds (λ p e. x <ℚ p /ℚ e) l h c d → IsQuotient l h c d x
  in_not_negative above none_above = IsQuotient_in l h c d x lh cd not_negative (low_side above) (high_side none_above)

-- the same for -x and the dividends' opposites, and for -x and the divisors' opposites
turned_dividend : {l h c d x : ℚ} → IsQuotient (neg_ℚ h) (neg_ℚ l) c d (neg_ℚ x) → IsQuotient l h c d x
turned_dividend {l} {h} {c} {d} {x} q =
    let p = from_at_most (minus (rat h)) (minus (rat x) ⊠ rat q.by) q.product_within.above in
    let p' = from_at_most (minus (rat x) ⊠ rat q.by) (minus (rat l)) q.product_within.below in
    record {
      by = q.by;
      by_within = q.by_within;
      product_within = record {
        above = at_most (rat l) (rat x ⊠ rat q.by) (omega arith);
        below = at_most (rat x ⊠ rat q.by) (rat h) (omega arith);
      };
    }

turned_divisor : {l h c d x : ℚ} → IsQuotient l h (neg_ℚ d) (neg_ℚ c) (neg_ℚ x) → IsQuotient l h c d x
turned_divisor {l} {h} {c} {d} {x} q =
    let p = from_at_most (minus (rat d)) (rat q.by) q.by_within.above in
    let p' = from_at_most (rat q.by) (minus (rat c)) q.by_within.below in
    record {
      by = neg_ℚ q.by;
      by_within = record {
        above = at_most (rat c) (minus (rat q.by)) (omega arith);
        below = at_most (minus (rat q.by)) (rat d) (omega arith);
      };
      product_within = IsWithin-same (same (minus (rat x) ⊠ rat q.by) (rat x ⊠ minus (rat q.by)) (omega arith)) q.product_within;
    }

opposite_above : (p e x : ℚ) → neg_ℚ p /ℚ e <ℚ neg_ℚ x → x <ℚ p /ℚ e
opposite_above p e x h =
    let k = from_below (minus (rat p) ⊠ rat (inverse_ℚ e)) (minus (rat x)) h in
    below (rat x) (rat p ⊠ rat (inverse_ℚ e)) (omega arith)

opposite_below : (p e x : ℚ) → neg_ℚ x <ℚ neg_ℚ p /ℚ e → p /ℚ e <ℚ x
opposite_below p e x h =
    let k = from_below (minus (rat x)) (minus (rat p) ⊠ rat (inverse_ℚ e)) h in
    below (rat p ⊠ rat (inverse_ℚ e)) (rat x) (omega arith)

-- among quotients by positive values is each number that is neither above nor below all four quotients of ends
in_by_positive : (l h c d x : ℚ) → l ≤ℚ h → c ≤ℚ d → zero_ℚ <ℚ c → ¬ AtEnds (λ p e. p /ℚ e <ℚ x) l h c d → ¬ AtEnds (λ p e. x <ℚ p /ℚ e) l h c d → IsQuotient l h c d x
in_by_positive l h c d x lh cd positive above under =
    ⊎_elim
    (λ s. in_not_negative l h c d x lh cd positive s above under)
    (λ s. turned_dividend
    (in_not_negative (neg_ℚ h) (neg_ℚ l) c d (neg_ℚ x) (neg_ℚ_anti lh) cd positive (opposite_not_negative s)
    (λ t. under (record {
      low_low = opposite_above l c x t.high_low;
      low_high = opposite_above l d x t.high_high;
      high_low = opposite_above h c x t.low_low;
      high_high = opposite_above h d x t.low_high;
    }))
    (λ t. above (record {
      low_low = opposite_below l c x t.high_low;
      low_high = opposite_below l d x t.high_high;
      high_low = opposite_below h c x t.low_low;
      high_high = opposite_below h d x t.low_high;
    }))))
    (≤ℚ_total zero_ℚ x)

inverse_turned : (n : ℤ) (d : ℕ) → (inverse_of (neg_ℤ n) d).num *ℤ pos (inverse_of n d).den ≡ neg_ℤ (inverse_of n d).num *ℤ pos (inverse_of (neg_ℤ n) d).den
inverse_turned (pos zero) d = refl
inverse_turned (pos (suc n)) d = refl
inverse_turned (negsuc n) d = Ring.same (nat d ⊗ nat (suc n)) (opp (opp (nat d)) ⊗ nat (suc n)) (omega arith)

pub inverse_neg : (e : ℚ) → inverse_ℚ (neg_ℚ e) ≈ℚ neg_ℚ (inverse_ℚ e)
inverse_neg e = record { same = inverse_turned e.num e.den }

turned_above : (p e x : ℚ) → p /ℚ neg_ℚ e <ℚ neg_ℚ x → x <ℚ p /ℚ e
turned_above p e x h =
    let k = from_below (rat p ⊠ minus (rat (inverse_ℚ e))) (minus (rat x)) (≤ℚ-<ℚ_trans (≈ℚ-≤ℚ (*ℚ_same_second p (≈ℚ_sym (inverse_neg e)))) h) in
    below (rat x) (rat p ⊠ rat (inverse_ℚ e)) (omega arith)

turned_below : (p e x : ℚ) → neg_ℚ x <ℚ p /ℚ neg_ℚ e → p /ℚ e <ℚ x
turned_below p e x h =
    let k = from_below (minus (rat x)) (rat p ⊠ minus (rat (inverse_ℚ e))) (<ℚ-≤ℚ_trans h (≈ℚ-≤ℚ (*ℚ_same_second p (inverse_neg e)))) in
    below (rat p ⊠ rat (inverse_ℚ e)) (rat x) (omega arith)

in_by_negative : (l h c d x : ℚ) → l ≤ℚ h → c ≤ℚ d → d <ℚ zero_ℚ → ¬ AtEnds (λ p e. p /ℚ e <ℚ x) l h c d → ¬ AtEnds (λ p e. x <ℚ p /ℚ e) l h c d → IsQuotient l h c d x
in_by_negative l h c d x lh cd negative above under =
    turned_divisor
    (in_by_positive l h (neg_ℚ d) (neg_ℚ c) (neg_ℚ x) lh (neg_ℚ_anti cd) (opposite_positive negative)
    (λ t. under (record {
      low_low = turned_above l c x t.low_high;
      low_high = turned_above l d x t.low_low;
      high_low = turned_above h c x t.high_high;
      high_high = turned_above h d x t.high_low;
    }))
    (λ t. above (record {
      low_low = turned_below l c x t.low_high;
      low_high = turned_below l d x t.low_low;
      high_low = turned_below h c x t.high_high;
      high_high = turned_below h d x t.high_low;
    })))

-- and among quotients by values on one side of 0
pub quotient_in : (l h c d x : ℚ) → l ≤ℚ h → c ≤ℚ d → (zero_ℚ <ℚ c) ⊎ (d <ℚ zero_ℚ) → ¬ AtEnds (λ p e. p /ℚ e <ℚ x) l h c d → ¬ AtEnds (λ p e. x <ℚ p /ℚ e) l h c d → IsQuotient l h c d x
quotient_in l h c d x lh cd s above under =
    ⊎_elim (λ p. in_by_positive l h c d x lh cd p above under) (λ n. in_by_negative l h c d x lh cd n above under) s

-- where the divisors reach 0 and the dividends are positive: x times one end of the divisors is at least l
pub two_parts_out : (l h c d x : ℚ) → zero_ℚ <ℚ l → IsQuotient l h c d x → (l ≤ℚ x *ℚ c) ⊎ (l ≤ℚ x *ℚ d)
two_parts_out l h c d x positive q =
    ⊎_elim
    (λ s. inr (≤ℚ_trans q.product_within.above (*ℚ_mono_second x s q.by_within.below)))
    (λ s. inl (≤ℚ_trans q.product_within.above (*ℚ_anti_second x s q.by_within.above)))
    (≤ℚ_total zero_ℚ x)

module _ (l h : ℚ) (positive : zero_ℚ <ℚ l) (lh : l ≤ℚ h) where
  upper_part : (c d x : ℚ) → c ≤ℚ zero_ℚ → zero_ℚ ≤ℚ d → l ≤ℚ x *ℚ d → IsQuotient l h c d x
  upper_part c d x cz zd q =
      ⊎_elim
      (λ s. IsQuotient_in l h c d x lh (≤ℚ_trans cz zd) s
      (≤ℚ_trans (*ℚ_mono_second x s cz) (≤ℚ_trans (≈ℚ-≤ℚ (times_zero x)) (<ℚ-≤ℚ (<ℚ-≤ℚ_trans positive lh))))
      q)
      (λ s. absurd (clash_ℚ (<ℚ-≤ℚ_trans positive q) (≤ℚ_trans (*ℚ_anti_second x s zd) (≈ℚ-≤ℚ (times_zero x)))))
      (≤ℚ_total zero_ℚ x)

  pub two_parts_in : (c d x : ℚ) → c ≤ℚ zero_ℚ → zero_ℚ ≤ℚ d → (l ≤ℚ x *ℚ c) ⊎ (l ≤ℚ x *ℚ d) → IsQuotient l h c d x
  two_parts_in c d x cz zd q =
      ⊎_elim
      (λ k. turned_divisor
      (upper_part (neg_ℚ d) (neg_ℚ c) (neg_ℚ x) (opposite_not_positive zd) (opposite_not_negative cz)
      (≤ℚ_trans k (≈ℚ-≤ℚ (same (rat x ⊠ rat c) (minus (rat x) ⊠ minus (rat c)) (omega arith))))))
      (λ k. upper_part c d x cz zd k)
      q
