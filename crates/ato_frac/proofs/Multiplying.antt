-- Products of fractions whose common divisors are taken out first, crosswise.
use Rattle.std.proofs.Common.{◌≡◌, ℕ, ◌*◌, ◌/◌, ◌<◌, ℤ, pos, ◌*ℤ◌, unsigned_abs, int_lt, not, negsuc, ◌^◌, refl, arith, mul-pos}
use Rattle.std.specs.Int.{IsGcd}
use Rattle.std.proofs.Math.Nat.{div-mul_cancel}
use Rattle.std.proofs.lemmas.Nat.Gcd.{IsGcd-swap}
use Rattle.ato_frac.specs.Coprime.{coprime_product, coprime_divisors, quotient_dvd}
use Rattle.ato_frac.proofs.LowestTerms.{quotients_coprime, quotient_positive, in_range_lowest, signed_cross}
use mathlib.Core.Bool.{beq}
use Rattle.ato_frac.specs.declared.fraction.Frac.{Frac}
use Rattle.ato_frac.specs.Fractions.{value_of, CanMultiply}
use Rattle.ato_frac.proofs.Ranges.{small_terms}
use Rattle.ato_frac.specs.Signed.{signed_of}
use Rattle.ato_rational.specs.Rational.{◌≈ℚ◌, ◌*ℚ◌}

regroup : (a b c d g h : ℕ) → (a * c) * ((b * h) * (d * g)) ≡ ((a * g) * (c * h)) * (b * d)
regroup a b c d g h = omega arith

-- a / b times c / d
module _ (a b c d g h : ℕ) (is_g : IsGcd a d g) (is_h : IsGcd c b h) (b_positive : 0 < b) (d_positive : 0 < d) where
  pub product_cross : (a / g * (c / h)) * (b * d) ≡ (a * c) * (b / h * (d / g))
  product_cross =
      rw (div-mul_cancel g is_g.0, div-mul_cancel g is_g.1, div-mul_cancel h is_h.0, div-mul_cancel h is_h.1) at
      (regroup (a / g) (b / h) (c / h) (d / g) g h)

  pub product_den_positive : 0 < b / h * (d / g)
  product_den_positive = mul-pos (quotient_positive c b h is_h b_positive) (quotient_positive a d g is_g d_positive)

  pub product_coprime : IsGcd a b 1 → IsGcd c d 1 → IsGcd (a / g * (c / h)) (b / h * (d / g)) 1
  product_coprime ab cd =
      let a_b = coprime_divisors a b (a / g) (b / h) ab (quotient_dvd a g is_g.0) (quotient_dvd b h is_h.1) in
      let c_d = coprime_divisors c d (c / h) (d / g) cd (quotient_dvd c h is_h.0) (quotient_dvd d g is_g.1) in
      let a_d = quotients_coprime a d g is_g d_positive in
      let c_b = quotients_coprime c b h is_h b_positive in
      coprime_product (a / g) (c / h) (b / h * (d / g))
      (IsGcd-swap _ _ 1 (coprime_product (b / h) (d / g) (a / g) (IsGcd-swap _ _ 1 a_b) (IsGcd-swap _ _ 1 a_d)))
      (IsGcd-swap _ _ 1 (coprime_product (b / h) (d / g) (c / h) (IsGcd-swap _ _ 1 c_b) (IsGcd-swap _ _ 1 c_d)))

pub product_signed : (m n : ℤ) → signed_of (not (beq (int_lt m (pos 0)) (int_lt n (pos 0)))) (unsigned_abs m * unsigned_abs n) ≡ m *ℤ n
product_signed (pos m) (pos n) = grind arith
product_signed (pos m) (negsuc n) = grind arith
product_signed (negsuc m) (pos n) = grind arith
product_signed (negsuc m) (negsuc n) = refl

module _ (x y : Frac) (g h : ℕ) (is_g : IsGcd (unsigned_abs x.numer) y.denom g) (is_h : IsGcd (unsigned_abs y.numer) x.denom h) where
  pub product_fits : CanMultiply x y → (unsigned_abs x.numer / g * (unsigned_abs y.numer / h) < 2 ^ 127) × (x.denom / h * (y.denom / g) < 2 ^ 127)
  product_fits r =
      in_range_lowest (not (beq (int_lt x.numer (pos 0)) (int_lt y.numer (pos 0)))) _ _ (unsigned_abs x.numer * unsigned_abs y.numer) (x.denom * y.denom)
      (product_coprime _ _ _ _ g h is_g is_h x.positive y.positive x.lowest y.lowest)
      (product_den_positive _ _ _ _ g h is_g is_h x.positive y.positive)
      (mul-pos x.positive y.positive)
      (product_cross _ _ _ _ g h is_g is_h x.positive y.positive)
      (rw product_signed (small_terms _ r))

  pub product_value : (f : Frac) → f.numer ≡ signed_of (not (beq (int_lt x.numer (pos 0)) (int_lt y.numer (pos 0)))) (unsigned_abs x.numer / g * (unsigned_abs y.numer / h)) → f.denom ≡ x.denom / h * (y.denom / g) → value_of f ≈ℚ value_of x *ℚ value_of y
  product_value f e k =
      record {
        same = rw (e, k, ← product_signed x.numer y.numer)
            (signed_cross (not (beq (int_lt x.numer (pos 0)) (int_lt y.numer (pos 0)))) _ _ _ _ (product_cross _ _ _ _ g h is_g is_h x.positive y.positive));
      }
