-- When the parts of a number give a fraction.
use Rattle.std.proofs.Common.{◌≡◌, ◌≢◌, inl, inr, ℕ, ◌^◌, ◌<◌, ◌≤◌, ℤ, pos, neg_ℤ, ◌+ℤ◌, ◌≤ℤ◌, Bool, true, false, List, ◌++◌, length, Option, Some, None, MatchOption, MatchResult, refl, sym, subst, ◌∙◌, ⊎_elim, arith}
use Rattle.std.specs.Option.{ok_or}
use Rattle.ato_frac.specs.declared.faults.DecimalFault.TheVariants as too_wide
use Rattle.ato_frac.specs.declared.fraction.Frac.{Frac}
use Rattle.ato_frac.specs.Decimals.{IsReadable, Reads, RefusesText}
use Rattle.ato_frac.specs.Fractions.{value_of}
use Rattle.ato_frac.specs.Numbers.{Parts, IsNumber, IsScaled, digits_value, power_of, number_value, ten_to}
use Rattle.ato_frac.specs.Signed.{signed_of}
use Rattle.ato_frac.specs.Scaling.{CanScale}
use Rattle.ato_frac.specs.Trimmed.{IsTrimmed}
use Rattle.ato_frac.proofs.Ranges.{in_range}
use Rattle.ato_frac.proofs.Scaled.{range_moved}
use Rattle.ato_frac.proofs.Tens.{times_zeros, scaled_unique}
use Rattle.ato_rational.specs.Rational.{◌≈ℚ◌, ◌*ℚ◌, whole, zero_ℚ}
use Rattle.ato_rational.proofs.Order.{≈ℚ_sym, ≈ℚ_trans}
use Rattle.ato_rational.proofs.RationalRing as Rational
use Rattle.ato_rational.proofs.RationalRing.{rat, ◌⊠◌}
use Rattle.ato_rational.proofs.Ring.{nat, opp, ◌⊕◌, from_at_most}

abbrev pub parts_of : List ℕ → List ℕ → Bool → List ℕ → Parts
parts_of before after negative exponent = record { whole = before; fraction = after; negative = negative; exponent = exponent }

module _ (parts : Parts) (m k : ℕ) (trimmed : IsTrimmed (digits_value (parts.whole ++ parts.fraction)) m k) where
  value_is : number_value parts ≈ℚ whole (pos m) *ℚ ten_to (power_of parts +ℤ pos k)
  value_is = times_zeros _ m k (power_of parts) trimmed.same

  -- a number that is not 0
  scaled_is : m ≢ 0 → IsScaled (number_value parts) m (power_of parts +ℤ pos k)
  scaled_is h = record { same = value_is; no_multiple = ⊎_elim inl (λ z. absurd (h z.0)) trimmed.no_multiple }

  pub long_refused : 2 ^ 127 ≤ m → ¬ IsReadable (number_value parts)
  long_refused h r =
      let nonzero : m ≢ 0 = λ e. omega (arith, h) in
      let e = (scaled_unique _ m r.m _ r.e (scaled_is nonzero) r.scaled).0 in
      omega (arith, e, h, r.m_small)

  -- 0, whatever its exponent is
  zero_value : m ≡ 0 → number_value parts ≈ℚ zero_ℚ
  zero_value h =
      ≈ℚ_trans value_is
      (rw h (Rational.same (rat zero_ℚ ⊠ rat (ten_to (power_of parts +ℤ pos k))) (rat zero_ℚ) (omega arith)))

  pub zero_read : (f : Frac) → m ≡ 0 → value_of f ≈ℚ zero_ℚ → IsReadable (number_value parts) × (value_of f ≈ℚ number_value parts)
  zero_read f h e =
      let value = ≈ℚ_trans e (≈ℚ_sym (zero_value h)) in (
        record {
          m = 0;
          e = pos 0;
          scaled = record {
            same = ≈ℚ_trans (zero_value h) (Rational.same (rat zero_ℚ) (rat (whole (pos 0)) ⊠ rat (ten_to (pos 0))) (omega arith));
            no_multiple = inr (refl, refl);
          };
          m_small = omega arith;
          e_low = omega arith;
          e_high = omega arith;
          in_range = in_range f _ value;
        },
        value,
      )

  module _ (e : ℤ) (nonzero : m ≢ 0) (e_is : e ≡ power_of parts +ℤ pos k) where
    value_at : number_value parts ≈ℚ whole (pos m) *ℚ ten_to e
    value_at = rw e_is value_is

    can_read : m < 2 ^ 127 → CanScale m e → IsReadable (number_value parts)
    can_read small c =
        record {
          m = m;
          e = e;
          scaled = record { same = value_at; no_multiple = ⊎_elim inl (λ z. absurd (nonzero z.0)) trimmed.no_multiple };
          m_small = small;
          e_low = c.e_low;
          e_high = c.e_high;
          in_range = range_moved _ _ (≈ℚ_sym value_at) c.in_range;
        }

    can_scale : IsReadable (number_value parts) → CanScale m e
    can_scale r =
        let s = scaled_unique _ m r.m _ r.e (scaled_is nonzero) r.scaled in
        let same_e : r.e ≡ e = sym s.1 ∙ sym e_is in
        record {
          e_low = subst (λ (z : ℤ). neg_ℤ (pos 38) ≤ℤ z) same_e r.e_low;
          e_high = subst (λ (z : ℤ). z ≤ℤ pos 38) same_e r.e_high;
          in_range = range_moved _ _ value_at r.in_range;
        }

    pub scaled_read : (r : Option Frac) → m < 2 ^ 127 → MatchOption r (¬ CanScale m e) (λ f. CanScale m e × (value_of f ≈ℚ whole (pos m) *ℚ ten_to e)) → MatchOption r (¬ IsReadable (number_value parts)) (λ f. IsReadable (number_value parts) × (value_of f ≈ℚ number_value parts))
    scaled_read None small h = λ r. h (can_scale r)
    scaled_read (Some f) small h = (can_read small h.0, ≈ℚ_trans h.1 (≈ℚ_sym value_at))

-- an exponent of 2^64 or more leaves the limits, whatever digits stand before it
far : (negative : Bool) (v places k : ℕ) (e : ℤ) → e ≡ (signed_of negative v +ℤ neg_ℤ (pos places)) +ℤ pos k → 2 ^ 64 ≤ v → k < 2 ^ 63 → places < 2 ^ 63 → neg_ℤ (pos 38) ≤ℤ e → e ≤ℤ pos 38 → ⊥
far false v places k e e_is h a b low high =
    let t = from_at_most (nat v ⊕ opp (nat places) ⊕ nat k) (nat 38) (subst (λ (z : ℤ). z ≤ℤ pos 38) e_is high) in
    omega arith
far true v places k e e_is h a b low high =
    let t = from_at_most (opp (nat 38)) (opp (nat v) ⊕ opp (nat places) ⊕ nat k) (subst (λ (z : ℤ). neg_ℤ (pos 38) ≤ℤ z) e_is low) in
    omega arith

pub far_refused : (parts : Parts) (m k : ℕ) → IsTrimmed (digits_value (parts.whole ++ parts.fraction)) m k → m ≢ 0 → 2 ^ 64 ≤ digits_value parts.exponent → k < 2 ^ 63 → length parts.fraction < 2 ^ 63 → ¬ IsReadable (number_value parts)
far_refused parts m k t nonzero h a b r =
    let c = can_scale parts m k t (power_of parts +ℤ pos k) nonzero refl r in
    far parts.negative (digits_value parts.exponent) (length parts.fraction) k _ refl h a b c.e_low c.e_high

-- what is answered for a number of these parts
pub answers : (text : List ℕ) (parts : Parts) (r : Option Frac) → IsNumber text parts → MatchOption r (¬ IsReadable (number_value parts)) (λ f. IsReadable (number_value parts) × (value_of f ≈ℚ number_value parts)) → MatchResult (ok_or r too_wide.Wide) (Reads text) (RefusesText text)
answers text parts None n h = (parts, n, h)
answers text parts (Some f) n h = record { parts = parts; number = n; readable = h.0; value = h.1 }
