-- Fractions and the values in range.
use Rattle.std.proofs.Common.{◌≡◌, ◌≢◌, ◌⊎◌, inr, ℕ, zero, suc, ◌*◌, ℤ, pos, negsuc, ◌*ℤ◌, Option, Some, None, MatchOption, refl, arith}
use Rattle.ato_frac.specs.declared.fraction.Frac.{Frac}
use Rattle.ato_frac.specs.Fractions.{value_of}
use Rattle.ato_frac.specs.LowestTerms.{HasSmallTerms}
use Rattle.ato_frac.specs.Range.{IsInRange}
use Rattle.ato_rational.specs.Rational.{ℚ, ◌≈ℚ◌, ◌/ℚ◌, whole}
use Rattle.ato_rational.proofs.Ring.{int, nat, opp, ◌⊗◌, same, from_same}

-- what a fraction stands for is in range
pub in_range : (f : Frac) (x : ℚ) → value_of f ≈ℚ x → IsInRange x
in_range f x e =
    record {
      terms = value_of f;
      same = e;
      small = record { lowest = f.lowest; num_small = f.numer_small; den_small = f.denom_small };
    }

pub small_terms : (x : ℚ) → IsInRange x → HasSmallTerms x.num (pos x.den)
small_terms x r =
    record {
      num = r.terms.num;
      den = r.terms.den;
      same = r.same.same;
      positive = r.terms.positive;
      lowest = r.small.lowest;
      num_small = r.small.num_small;
      den_small = r.small.den_small;
    }

-- x / y is n / d, by cross products of whole numbers
cross_to : (n d x : ℤ) (y : ℕ) → d ≢ pos 0 → x *ℤ d ≡ n *ℤ pos y → x *ℤ pos (whole n /ℚ whole d).den ≡ (whole n /ℚ whole d).num *ℤ pos y
cross_to n (pos zero) x y h e = absurd (h refl)
cross_to n (pos (suc k)) x y h e =
    let p = from_same (int x ⊗ nat (suc k)) (int n ⊗ nat y) e in
    same (int x ⊗ nat (1 * suc k)) (int n ⊗ nat 1 ⊗ nat y) (omega arith)
cross_to n (negsuc k) x y h e =
    let p = from_same (int x ⊗ opp (nat (suc k))) (int n ⊗ nat y) e in
    same (int x ⊗ nat (1 * suc k)) (int n ⊗ opp (nat 1) ⊗ nat y) (omega arith)

cross_from : (n d x : ℤ) (y : ℕ) → d ≢ pos 0 → x *ℤ pos (whole n /ℚ whole d).den ≡ (whole n /ℚ whole d).num *ℤ pos y → x *ℤ d ≡ n *ℤ pos y
cross_from n (pos zero) x y h e = absurd (h refl)
cross_from n (pos (suc k)) x y h e =
    let p = from_same (int x ⊗ nat (1 * suc k)) (int n ⊗ nat 1 ⊗ nat y) e in
    same (int x ⊗ nat (suc k)) (int n ⊗ nat y) (omega arith)
cross_from n (negsuc k) x y h e =
    let p = from_same (int x ⊗ nat (1 * suc k)) (int n ⊗ opp (nat 1) ⊗ nat y) e in
    same (int x ⊗ opp (nat (suc k))) (int n ⊗ nat y) (omega arith)

quotient_terms : (n d : ℤ) → d ≢ pos 0 → IsInRange (whole n /ℚ whole d) → HasSmallTerms n d
quotient_terms n d h r =
    record {
      num = r.terms.num;
      den = r.terms.den;
      same = cross_from n d r.terms.num r.terms.den h r.same.same;
      positive = r.terms.positive;
      lowest = r.small.lowest;
      num_small = r.small.num_small;
      den_small = r.small.den_small;
    }

-- a fraction made of whole numbers is their quotient
pub as_quotient : (n d : ℤ) (r : Option Frac) → d ≢ pos 0 → MatchOption r (¬ HasSmallTerms n d) (λ f. f.numer *ℤ d ≡ n *ℤ pos f.denom) → MatchOption r ((d ≡ pos 0) ⊎ ¬ IsInRange (whole n /ℚ whole d)) (λ f. (d ≢ pos 0) × (value_of f ≈ℚ whole n /ℚ whole d))
as_quotient n d None h k = inr (λ r. k (quotient_terms n d h r))
as_quotient n d (Some f) h k = (h, record { same = cross_to n d f.numer f.denom h k })
