-- Fractions of whole numbers times powers of 10.
use Rattle.std.proofs.Common.{◌≡◌, ℕ, zero, suc, ◌*◌, ◌-◌, ◌^◌, ◌<◌, ◌≤◌, ℤ, pos, negsuc, neg_ℤ, ◌+ℤ◌, ◌*ℤ◌, Option, Some, None, Result, Ok, Err, MatchOption, MatchResult, sym, subst, arith}
use Rattle.std.specs.Result.{result_ok}
use Rattle.ato_frac.specs.declared.fraction.Frac.{Frac}
use Rattle.ato_frac.specs.declared.faults.NumFault.{NumFault}
use Rattle.ato_frac.specs.declared.faults.NumFault.TheVariants.{Wide}
use Rattle.ato_frac.specs.Fractions.{value_of, CanMultiply}
use Rattle.ato_frac.specs.LowestTerms.{HasSmallTerms}
use Rattle.ato_frac.specs.Numbers.{ten_to}
use Rattle.ato_frac.specs.Range.{IsInRange}
use Rattle.ato_frac.specs.Scaling.{CanScale}
use Rattle.ato_frac.proofs.Ranges.{in_range, small_terms}
use Rattle.ato_frac.proofs.Tens.{difference_up}
use Rattle.ato_rational.specs.Rational.{ℚ, ◌≈ℚ◌, ◌*ℚ◌, whole}
use Rattle.ato_rational.proofs.Order.{≈ℚ_sym, ≈ℚ_trans, *ℚ_same}
use Rattle.ato_rational.proofs.Ring.{int, nat, opp, ◌⊕◌, ◌⊗◌, same, from_same, at_most}

pub range_moved : (x y : ℚ) → x ≈ℚ y → IsInRange x → IsInRange y
range_moved x y e r = record { terms = r.terms; same = ≈ℚ_trans r.same e; small = r.small }

-- m / 10^k by cross products
quotient_value : (f : Frac) (m k : ℕ) → f.numer *ℤ pos (10 ^ suc k) ≡ pos m *ℤ pos f.denom → value_of f ≈ℚ whole (pos m) *ℚ ten_to (negsuc k)
quotient_value f m k e =
    let p = from_same (int f.numer ⊗ nat (10 ^ suc k)) (nat m ⊗ nat f.denom) e in
    record { same = same (int f.numer ⊗ nat (1 * 10 ^ suc k)) (nat m ⊗ nat 1 ⊗ nat f.denom) (omega arith) }

quotient_terms : (m k : ℕ) → IsInRange (whole (pos m) *ℚ ten_to (negsuc k)) → HasSmallTerms (pos m) (pos (10 ^ suc k))
quotient_terms m k r =
    let t = small_terms _ r in
    let p = from_same (int t.num ⊗ nat (1 * 10 ^ suc k)) (nat m ⊗ nat 1 ⊗ nat t.den) t.same in
    record {
      num = t.num;
      den = t.den;
      same = same (int t.num ⊗ nat (10 ^ suc k)) (nat m ⊗ nat t.den) (omega arith);
      positive = t.positive;
      lowest = t.lowest;
      num_small = t.num_small;
      den_small = t.den_small;
    }

pub over_moved : (m k : ℕ) (r : Option Frac) → 0 < k → MatchOption r (¬ HasSmallTerms (pos m) (pos (10 ^ k))) (λ f. f.numer *ℤ pos (10 ^ k) ≡ pos m *ℤ pos f.denom) → MatchOption r (¬ IsInRange (whole (pos m) *ℚ ten_to (neg_ℤ (pos k)))) (λ f. value_of f ≈ℚ whole (pos m) *ℚ ten_to (neg_ℤ (pos k)))
over_moved m zero r p h = absurd (omega arith)
over_moved m (suc k) None p h = λ t. h (quotient_terms m k t)
over_moved m (suc k) (Some f) p h = quotient_value f m k h

-- a product of two numbers that are given by their values
pub product_given : (x y : Frac) (v : ℚ) (t n : ℕ) (r : Result Frac NumFault) → t ≡ n → value_of x ≈ℚ v → value_of y ≈ℚ whole (pos t) → MatchResult r (λ f. CanMultiply x y × (value_of f ≈ℚ value_of x *ℚ value_of y)) (λ e. (e ≡ Wide) × ¬ CanMultiply x y) → MatchOption (result_ok r) (¬ IsInRange (v *ℚ whole (pos n))) (λ f. value_of f ≈ℚ v *ℚ whole (pos n))
product_given x y v t n (Ok f) k d e h = ≈ℚ_trans h.1 (*ℚ_same d (rw (← k) e))
product_given x y v t n (Err w) k d e h = λ g. h.1 (range_moved _ _ (≈ℚ_sym (*ℚ_same d (rw (← k) e))) g)

-- the difference of the two powers is small enough, and the value in range

module _ (m u d : ℕ) where
  can_up : (h : d ≤ u) → u - d ≤ 38 → IsInRange (whole (pos m) *ℚ ten_to (pos (u - d))) → CanScale m (pos u +ℤ neg_ℤ (pos d))
  can_up h k r =
      record {
        e_low = at_most (opp (nat 38)) (nat u ⊕ opp (nat d)) (omega arith);
        e_high = at_most (nat u ⊕ opp (nat d)) (nat 38) (omega arith);
        in_range = subst (λ (z : ℤ). IsInRange (whole (pos m) *ℚ ten_to z)) (sym (difference_up u d h)) r;
      }

  pub scaled_up : (r : Option Frac) → d ≤ u → u - d ≤ 38 → MatchOption r (¬ IsInRange (whole (pos m) *ℚ ten_to (pos (u - d)))) (λ f. value_of f ≈ℚ whole (pos m) *ℚ ten_to (pos (u - d))) → MatchOption r (¬ CanScale m (pos u +ℤ neg_ℤ (pos d))) (λ f. CanScale m (pos u +ℤ neg_ℤ (pos d)) × (value_of f ≈ℚ whole (pos m) *ℚ ten_to (pos u +ℤ neg_ℤ (pos d))))
  scaled_up None h k p = λ c. p (subst (λ (z : ℤ). IsInRange (whole (pos m) *ℚ ten_to z)) (difference_up u d h) c.in_range)
  scaled_up (Some f) h k p = (
    can_up h k (in_range f _ p),
    subst (λ (z : ℤ). value_of f ≈ℚ whole (pos m) *ℚ ten_to z) (sym (difference_up u d h)) p,
  )

  difference_opposite : u < d → pos u +ℤ neg_ℤ (pos d) ≡ neg_ℤ (pos (d - u))
  difference_opposite h = same (nat u ⊕ opp (nat d)) (opp (nat (d - u))) (omega arith)

  can_down : (h : u < d) → d - u ≤ 38 → IsInRange (whole (pos m) *ℚ ten_to (neg_ℤ (pos (d - u)))) → CanScale m (pos u +ℤ neg_ℤ (pos d))
  can_down h k r =
      record {
        e_low = at_most (opp (nat 38)) (nat u ⊕ opp (nat d)) (omega arith);
        e_high = at_most (nat u ⊕ opp (nat d)) (nat 38) (omega arith);
        in_range = subst (λ (z : ℤ). IsInRange (whole (pos m) *ℚ ten_to z)) (sym (difference_opposite h)) r;
      }

  pub scaled_down : (r : Option Frac) → u < d → d - u ≤ 38 → MatchOption r (¬ IsInRange (whole (pos m) *ℚ ten_to (neg_ℤ (pos (d - u))))) (λ f. value_of f ≈ℚ whole (pos m) *ℚ ten_to (neg_ℤ (pos (d - u)))) → MatchOption r (¬ CanScale m (pos u +ℤ neg_ℤ (pos d))) (λ f. CanScale m (pos u +ℤ neg_ℤ (pos d)) × (value_of f ≈ℚ whole (pos m) *ℚ ten_to (pos u +ℤ neg_ℤ (pos d))))
  scaled_down None h k p = λ c. p (subst (λ (z : ℤ). IsInRange (whole (pos m) *ℚ ten_to z)) (difference_opposite h) c.in_range)
  scaled_down (Some f) h k p = (
    can_down h k (in_range f _ p),
    subst (λ (z : ℤ). value_of f ≈ℚ whole (pos m) *ℚ ten_to z) (sym (difference_opposite h)) p,
  )
