-- Functions that fall up to 0, are 0 there and rise from there: absolute values and even powers.
use Rattle.std.proofs.Common.{◌≡◌, ◌≢◌, ⊎_elim, sym, subst, ℕ, suc, ◌-◌, ◌*◌, ◌/◌, ◌%◌, ◌<◌, ◌≤◌, refl, arith}
use Rattle.ato_rational.specs.Rational.{ℚ, ◌≈ℚ◌, ◌≤ℚ◌, neg_ℚ, abs_ℚ, power_ℚ, zero_ℚ}
use Rattle.ato_rational.specs.Ranges.{IsWithin}
use Rattle.ato_rational.proofs.RationalRing.{rat, ◌⊠◌, same}
use Rattle.ato_rational.proofs.Order.{≤ℚ_refl, ≤ℚ_trans, ≤ℚ_total, ≈ℚ-≤ℚ, ≈ℚ_sym, ≈ℚ_trans, neg_ℚ_anti}
use Rattle.ato_rational.proofs.Extremes.{abs_ℚ_is, abs_ℚ_below, max_ℚ_greatest}
use Rattle.ato_rational.proofs.Signs.{opposite_not_negative, opposite_not_positive}
use Rattle.ato_rational.proofs.Powers.{power_mono, even_power_turned, odd_power_mono}
use Rattle.ato_interval.specs.Ends.{Ends, Holds, IsProper}
use Rattle.ato_interval.specs.Folds.{IsFolded, rising, falling, around}
use Rattle.ato_interval.specs.Results.{HoldsImage, IsImage}

-- f falls up to 0, is 0 there and rises from there
pub record IsBowl (f : ℚ → ℚ) : Type 0 where
  pub falls : (x y : ℚ) → x ≤ℚ y → y ≤ℚ zero_ℚ → f y ≤ℚ f x
  pub rises : (x y : ℚ) → zero_ℚ ≤ℚ x → x ≤ℚ y → f x ≤ℚ f y
  pub at_zero : f zero_ℚ ≈ℚ zero_ℚ

-- such a function is nowhere below 0
pub bowl_not_negative : (f : ℚ → ℚ) → IsBowl f → (x : ℚ) → zero_ℚ ≤ℚ f x
bowl_not_negative f bowl x =
    ≤ℚ_trans (≈ℚ-≤ℚ (≈ℚ_sym bowl.at_zero))
    (⊎_elim (λ h. bowl.rises zero_ℚ x (≤ℚ_refl zero_ℚ) h) (λ h. bowl.falls x zero_ℚ h (≤ℚ_refl zero_ℚ)) (≤ℚ_total zero_ℚ x))

-- f of both ends, for any function f
module _ {Q : Type 0} (value : Q → ℚ) (f : ℚ → ℚ) (a : Ends Q) (proper : IsProper value a) (low high : Q) (at_low : value low ≈ℚ f (value a.low)) (at_high : value high ≈ℚ f (value a.high)) where
  pub image_low : IsImage value f a (value low)
  image_low = record { argument = value a.low; argument_in = record { above = ≤ℚ_refl (value a.low); below = proper }; same = at_low }

  pub image_high : IsImage value f a (value high)
  image_high = record { argument = value a.high; argument_in = record { above = proper; below = ≤ℚ_refl (value a.high) }; same = at_high }

  -- a function that rises
  module _ (rises : (x y : ℚ) → x ≤ℚ y → f x ≤ℚ f y) where
    pub risen : value low ≤ℚ value high
    risen = ≤ℚ_trans (≈ℚ-≤ℚ at_low) (≤ℚ_trans (rises (value a.low) (value a.high) proper) (≈ℚ-≤ℚ (≈ℚ_sym at_high)))

    pub risen_holds : (x : ℚ) → Holds value a x → IsWithin (value low) (value high) (f x)
    risen_holds x w =
        record {
          above = ≤ℚ_trans (≈ℚ-≤ℚ at_low) (rises (value a.low) x w.above);
          below = ≤ℚ_trans (rises x (value a.high) w.below) (≈ℚ-≤ℚ (≈ℚ_sym at_high));
        }

  -- one that falls and rises
  module _ (bowl : IsBowl f) where
    pub low_not_negative : zero_ℚ ≤ℚ value low
    low_not_negative = ≤ℚ_trans (bowl_not_negative f bowl (value a.low)) (≈ℚ-≤ℚ (≈ℚ_sym at_low))

    pub ends_rise : zero_ℚ ≤ℚ value a.low → value low ≤ℚ value high
    ends_rise n = ≤ℚ_trans (≈ℚ-≤ℚ at_low) (≤ℚ_trans (bowl.rises (value a.low) (value a.high) n proper) (≈ℚ-≤ℚ (≈ℚ_sym at_high)))

    pub ends_fall : value a.high ≤ℚ zero_ℚ → value high ≤ℚ value low
    ends_fall n = ≤ℚ_trans (≈ℚ-≤ℚ at_high) (≤ℚ_trans (bowl.falls (value a.low) (value a.high) proper n) (≈ℚ-≤ℚ (≈ℚ_sym at_low)))

    pub folded_holds : (r : Ends Q) → IsFolded value a low high r → HoldsImage value f a r
    folded_holds r (rising n d e) x w =
        rw (d, e) (record {
          above = ≤ℚ_trans (≈ℚ-≤ℚ at_low) (bowl.rises (value a.low) x n w.above);
          below = ≤ℚ_trans (bowl.rises x (value a.high) (≤ℚ_trans n w.above) w.below) (≈ℚ-≤ℚ (≈ℚ_sym at_high));
        })
    folded_holds r (falling n d e) x w =
        rw (d, e) (record {
          above = ≤ℚ_trans (≈ℚ-≤ℚ at_high) (bowl.falls x (value a.high) w.below n);
          below = ≤ℚ_trans (bowl.falls (value a.low) x w.above (≤ℚ_trans w.below n)) (≈ℚ-≤ℚ (≈ℚ_sym at_low));
        })
    folded_holds r (around n p z d e one) x w =
        record {
          above = ≤ℚ_trans (≈ℚ-≤ℚ z) (bowl_not_negative f bowl x);
          below = ⊎_elim
              (λ h. ≤ℚ_trans (bowl.rises x (value a.high) h w.below) (≤ℚ_trans (≈ℚ-≤ℚ (≈ℚ_sym at_high)) e))
              (λ h. ≤ℚ_trans (bowl.falls (value a.low) x w.above h) (≤ℚ_trans (≈ℚ-≤ℚ (≈ℚ_sym at_low)) d))
              (≤ℚ_total zero_ℚ x);
        }

    pub folded_low : (r : Ends Q) → IsFolded value a low high r → IsImage value f a (value r.low)
    folded_low r (rising n d e) = rw d image_low
    folded_low r (falling n d e) = rw d image_high
    folded_low r (around n q z d e one) =
        record { argument = zero_ℚ; argument_in = record { above = n; below = q }; same = ≈ℚ_trans z (≈ℚ_sym bowl.at_zero) }

    pub folded_high : (r : Ends Q) → IsFolded value a low high r → IsImage value f a (value r.high)
    folded_high r (rising n d e) = rw e image_high
    folded_high r (falling n d e) = rw e image_low
    folded_high r (around n q z d e one) = ⊎_elim (λ t. rw t image_low) (λ t. rw t image_high) one

pub abs_bowl : IsBowl abs_ℚ
abs_bowl = record {
  falls = λ x y h n. abs_ℚ_below y (abs_ℚ x) (≤ℚ_trans n (abs_ℚ_is x).0) (≤ℚ_trans (neg_ℚ_anti h) (max_ℚ_greatest x (neg_ℚ x)).1);
  rises = λ x y n h. abs_ℚ_below x (abs_ℚ y) (≤ℚ_trans h (max_ℚ_greatest y (neg_ℚ y)).0) (≤ℚ_trans (opposite_not_positive n) (abs_ℚ_is y).0);
  at_zero = record { same = refl };
}

twice_bowl : (j : ℕ) → 0 < j → IsBowl (λ x. power_ℚ x (2 * j))
twice_bowl j positive = record {
  falls = λ x y h n.
      ≤ℚ_trans (≈ℚ-≤ℚ (≈ℚ_sym (even_power_turned y j)))
      (≤ℚ_trans (power_mono (neg_ℚ y) (neg_ℚ x) (2 * j) (opposite_not_negative n) (neg_ℚ_anti h)) (≈ℚ-≤ℚ (even_power_turned x j)));
  rises = λ x y n h. power_mono x y (2 * j) n h;
  at_zero =
      let e : 2 * j ≡ suc (2 * j - 1) = omega arith in
      subst (λ k. power_ℚ zero_ℚ k ≈ℚ zero_ℚ) (sym e) (same (rat zero_ℚ ⊠ rat (power_ℚ zero_ℚ (2 * j - 1))) (rat zero_ℚ) (omega arith));
}

pub even_power_bowl : (k : ℕ) → 1 ≤ k → k % 2 ≡ 0 → IsBowl (λ x. power_ℚ x k)
even_power_bowl k positive even =
    let e : 2 * (k / 2) ≡ k = omega arith in
    subst (λ n. IsBowl (λ x. power_ℚ x n)) e (twice_bowl (k / 2) (omega arith))

pub odd_power_rises : (k : ℕ) → k % 2 ≢ 0 → (x y : ℚ) → x ≤ℚ y → power_ℚ x k ≤ℚ power_ℚ y k
odd_power_rises k odd x y h =
    let e : suc (2 * (k / 2)) ≡ k = omega arith in
    subst (λ n. power_ℚ x n ≤ℚ power_ℚ y n) e (odd_power_mono x y (k / 2) h)
