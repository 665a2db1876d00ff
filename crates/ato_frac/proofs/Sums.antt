-- Sums of fractions over a common denominator.
use Rattle.std.proofs.Common.{◌≡◌, ℕ, ◌*◌, ◌/◌, ℤ, pos, negsuc, ◌+ℤ◌, ◌*ℤ◌, unsigned_abs, neg_ℤ, int_lt, Result, Ok, Err, MatchResult, refl, sym, subst, ap, arith}
use Rattle.std.specs.Int.{IsGcd}
use Rattle.std.proofs.lemmas.Nat.Gcd.{same_from_IsGcd}
use Rattle.ato_frac.specs.declared.fraction.Frac.{Frac}
use Rattle.ato_frac.specs.Fractions.{value_of, AddsOver, Adds, CanAdd, CanSubtract}
use Rattle.ato_frac.specs.declared.faults.NumFault.{NumFault}
use Rattle.ato_frac.specs.declared.faults.NumFault.TheVariants.{Wide}
use Rattle.ato_rational.specs.Rational.{ℚ, ◌≈ℚ◌, ◌+ℚ◌, ◌-ℚ◌, neg_ℚ}
use Rattle.std.proofs.Math.Nat.{div-mul_cancel}
use Rattle.ato_frac.specs.Signed.{signed_of}
use Rattle.ato_rational.proofs.Ring.{int, nat, ◌⊕◌, ◌⊗◌, same, from_same}

pub sign_kept : (n : ℤ) → signed_of (int_lt n (pos 0)) (unsigned_abs n) ≡ n
sign_kept (pos n) = grind arith
sign_kept (negsuc n) = refl

pub adds_over : (x y : ℚ) (g : ℕ) → IsGcd x.den y.den g → Adds x y → AddsOver g x.num x.den y.num y.den
adds_over x y g h r = subst (λ (k : ℕ). AddsOver k x.num x.den y.num y.den) (same_from_IsGcd x.den y.den r.gcd g r.is_gcd h) r.over

-- a / (b ⋅ g) + c / (d ⋅ g) is (a ⋅ d + c ⋅ b) / (b ⋅ d ⋅ g)
pub sum_over : (a c num : ℤ) (b d g den : ℕ) → num *ℤ pos (b * (d * g)) ≡ (a *ℤ pos d +ℤ c *ℤ pos b) *ℤ pos den → num *ℤ pos (b * g * (d * g)) ≡ (a *ℤ pos (d * g) +ℤ c *ℤ pos (b * g)) *ℤ pos den
sum_over a c num b d g den e =
    let p = from_same (int num ⊗ nat (b * (d * g))) ((int a ⊗ nat d ⊕ int c ⊗ nat b) ⊗ nat den) e in
    same (int num ⊗ nat (b * g * (d * g))) ((int a ⊗ nat (d * g) ⊕ int c ⊗ nat (b * g)) ⊗ nat den) (omega (arith, ap (λ x. x * g) p))

pub sum_value : (x y f : Frac) (g common : ℕ) (total : ℤ) → IsGcd x.denom y.denom g → total ≡ x.numer *ℤ pos (y.denom / g) +ℤ y.numer *ℤ pos (x.denom / g) → common ≡ x.denom / g * y.denom → f.numer *ℤ pos common ≡ total *ℤ pos f.denom → value_of f ≈ℚ value_of x +ℚ value_of y
sum_value x y f g common total h t k e =
    let own = div-mul_cancel g h.0 in
    let other = div-mul_cancel g h.1 in
    let scaled : f.numer *ℤ pos (x.denom / g * (y.denom / g * g)) ≡ (x.numer *ℤ pos (y.denom / g) +ℤ y.numer *ℤ pos (x.denom / g)) *ℤ pos f.denom =
    rw other (rw (k, t) at e)
    in
    record { same = rw (own, other) at (sum_over x.numer y.numer f.numer (x.denom / g) (y.denom / g) g f.denom scaled) }

-- the rule of sums reads the parts of its operands alone
adds_same : (x y z : ℚ) → y.num ≡ z.num → y.den ≡ z.den → Adds x y → Adds x z
adds_same x y z n d r = record { gcd = r.gcd; is_gcd = rw d at r.is_gcd; over = rw (n, d) at r.over }

sum_same : (x y z w : ℚ) → y.num ≡ z.num → y.den ≡ z.den → w ≈ℚ x +ℚ y → w ≈ℚ x +ℚ z
sum_same x y z w n d e = record { same = rw (n, d) at e.same }

pub by_opposite : (x y z : Frac) (r : Result Frac NumFault) → z.numer ≡ neg_ℤ y.numer → z.denom ≡ y.denom → MatchResult r (λ f. CanAdd x z × (value_of f ≈ℚ value_of x +ℚ value_of z)) (λ e. (e ≡ Wide) × ¬ CanAdd x z) → MatchResult r (λ f. CanSubtract x y × (value_of f ≈ℚ value_of x -ℚ value_of y)) (λ e. (e ≡ Wide) × ¬ CanSubtract x y)
by_opposite x y z (Ok f) n d h =
    (adds_same (value_of x) (value_of z) (neg_ℚ (value_of y)) n d h.0, sum_same (value_of x) (value_of z) (neg_ℚ (value_of y)) (value_of f) n d h.1)
by_opposite x y z (Err e) n d h =
    (h.0, λ r. h.1 (adds_same (value_of x) (neg_ℚ (value_of y)) (value_of z) (sym n) (sym d) r))
