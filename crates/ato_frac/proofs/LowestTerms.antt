-- The lowest terms of n / d are n / g and d / g, for the greatest common divisor g.
use Rattle.std.proofs.Common.{◌≡◌, ℕ, ◌*◌, ◌/◌, ◌^◌, ◌<◌, ℤ, pos, negsuc, neg_ℤ, to_z, of_z, ◌*ℤ◌, unsigned_abs, Bool, true, false, int_lt, Option, Some, None, MatchOption, suc, zero, sym, refl, ap, subst, ◌∙◌, arith, eq-zero-or-pos, ⊎_elim}
use Rattle.std.specs.Int.{IsGcd}
use Rattle.std.proofs.Math.Nat.{div-mul_cancel, pos_of_dvd_of_pos, eq_of_mul-eq-mul_right}
use Rattle.std.proofs.lemmas.Int.{unsigned_abs-mul, fits_signed_from_abs, to_z-of_z}
use Rattle.std.specs.Int.{w128}
use Rattle.ato_frac.specs.LowestTerms.{HasSmallTerms}
use Rattle.ato_frac.specs.Signed.{signed_of}
use Rattle.ato_frac.specs.declared.fraction.Frac.{Frac}
use Rattle.ato_frac.specs.Coprime.{coprime_quotients, lowest_unique}
use Rattle.ato_rational.proofs.Ring.{int, nat, opp, ◌⊗◌, same, from_same}

pub unsigned_abs-signed : (negative : Bool) (n : ℕ) → unsigned_abs (signed_of negative n) ≡ n
unsigned_abs-signed false n = refl
unsigned_abs-signed true zero = refl
unsigned_abs-signed true (suc n) = refl

pub signed_cross : (negative : Bool) (p q n d : ℕ) → p * d ≡ n * q → signed_of negative p *ℤ pos d ≡ signed_of negative n *ℤ pos q
signed_cross false p q n d e = same (nat p ⊗ nat d) (nat n ⊗ nat q) (omega arith)
signed_cross true p q n d e = same (opp (nat p) ⊗ nat d) (opp (nat n) ⊗ nat q) (omega arith)

-- a number of such a size comes back from its bits
pub signed_stored : (negative : Bool) (n : ℕ) → n < 2 ^ 127 → to_z w128 (of_z w128 (signed_of negative n)) ≡ signed_of negative n
signed_stored negative n h =
    to_z-of_z w128 (signed_of negative n) (fits_signed_from_abs w128 (signed_of negative n) (subst (λ (x : ℕ). x < 2 ^ 127) (sym (unsigned_abs-signed negative n)) h))

-- the lowest terms of n / d are the only ones
pub in_range_lowest : (negative : Bool) (p q n d : ℕ) → IsGcd p q 1 → 0 < q → 0 < d → p * d ≡ n * q → HasSmallTerms (signed_of negative n) (pos d) → (p < 2 ^ 127) × (q < 2 ^ 127)
in_range_lowest negative p q n d h positive positive' e r =
    let sizes : unsigned_abs r.num * d ≡ n * r.den =
    sym (unsigned_abs-mul r.num (pos d)) ∙ ap unsigned_abs r.same ∙ unsigned_abs-mul (signed_of negative n) (pos r.den) ∙ ap (λ x. x * r.den) (unsigned_abs-signed negative n)
    in
    let cross : p * r.den ≡ unsigned_abs r.num * q =
    eq_of_mul-eq-mul_right d positive' (p * r.den) (unsigned_abs r.num * q)
    (omega (arith, ap (λ x. x * r.den) e, ap (λ x. x * q) sizes))
    in
    let t = lowest_unique p q (unsigned_abs r.num) r.den h r.lowest positive cross in
    (subst (λ (x : ℕ). x < 2 ^ 127) (sym t.0) r.num_small, subst (λ (x : ℕ). x < 2 ^ 127) (sym t.1) r.den_small)

module _ (n d g : ℕ) (h : IsGcd n d g) (positive : 0 < d) where
  pub gcd_positive : 0 < g
  gcd_positive = pos_of_dvd_of_pos h.1 positive

  pub quotient_positive : 0 < d / g
  quotient_positive =
      ⊎_elim
      (λ e. absurd (omega (arith, div-mul_cancel g h.1, ap (λ x. x * g) e)))
      (λ p. p)
      (eq-zero-or-pos (d / g))

  pub quotients_cross : n / g * d ≡ n * (d / g)
  quotients_cross = omega (arith, ap (λ x. n / g * x) (div-mul_cancel g h.1), ap (λ x. x * (d / g)) (div-mul_cancel g h.0))

  pub quotients_coprime : IsGcd (n / g) (d / g) 1
  quotients_coprime = coprime_quotients n d g h gcd_positive

-- n / -d is -n / d
cross_turned : (n : ℤ) (d : ℕ) (x : ℤ) (y : ℕ) → x *ℤ pos (suc d) ≡ neg_ℤ n *ℤ pos y → x *ℤ negsuc d ≡ n *ℤ pos y
cross_turned n d x y e =
    let p = from_same (int x ⊗ nat (suc d)) (opp (int n) ⊗ nat y) e in
    same (int x ⊗ opp (nat (suc d))) (int n ⊗ nat y) (omega arith)

cross_turned_back : (n : ℤ) (d : ℕ) (x : ℤ) (y : ℕ) → x *ℤ negsuc d ≡ n *ℤ pos y → x *ℤ pos (suc d) ≡ neg_ℤ n *ℤ pos y
cross_turned_back n d x y e =
    let p = from_same (int x ⊗ opp (nat (suc d))) (int n ⊗ nat y) e in
    same (int x ⊗ nat (suc d)) (opp (int n) ⊗ nat y) (omega arith)

sign_turned : (n : ℤ) → signed_of (int_lt (pos 0) n) (unsigned_abs n) ≡ neg_ℤ n
sign_turned (pos zero) = refl
sign_turned (pos (suc n)) = grind arith
sign_turned (negsuc n) = refl

-- what `reduced_if_small` says of -n / d, as `new` says it of n / -d
pub turned : (n : ℤ) (d : ℕ) (r : Option Frac) → MatchOption r (¬ HasSmallTerms (signed_of (int_lt (pos 0) n) (unsigned_abs n)) (pos (suc d))) (λ f. f.numer *ℤ pos (suc d) ≡ signed_of (int_lt (pos 0) n) (unsigned_abs n) *ℤ pos f.denom) → MatchOption r (¬ HasSmallTerms n (negsuc d)) (λ f. f.numer *ℤ negsuc d ≡ n *ℤ pos f.denom)
turned n d None h =
    λ r. (rw sign_turned at h) record {
      num = r.num;
      den = r.den;
      same = cross_turned_back n d r.num r.den r.same;
      positive = r.positive;
      lowest = r.lowest;
      num_small = r.num_small;
      den_small = r.den_small;
    }
turned n d (Some f) h = cross_turned n d f.numer f.denom (rw sign_turned at h)
