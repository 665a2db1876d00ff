-- Quotients of fractions as products with the inverse.
use Rattle.std.proofs.Common.{◌≡◌, ◌≢◌, pos, Result, Ok, Err, MatchResult, sym, subst}
use Rattle.ato_frac.specs.declared.fraction.Frac.{Frac}
use Rattle.ato_frac.specs.declared.faults.NumFault.{NumFault}
use Rattle.ato_frac.specs.declared.faults.NumFault.TheVariants.{Wide}
use Rattle.ato_frac.specs.Faults.{RefusesQuotient}
use Rattle.ato_frac.specs.Fractions.{value_of, CanMultiply, CanDivide}
use Rattle.ato_frac.specs.Range.{IsInRange}
use Rattle.ato_frac.proofs.Ranges.{in_range}
use Rattle.ato_rational.specs.Rational.{ℚ, ◌≈ℚ◌, ◌*ℚ◌, ◌/ℚ◌, inverse_ℚ, IsNotZero}
use Rattle.ato_rational.proofs.Quotients.{not_zero}

product_same : (x y z w : ℚ) → y.num ≡ z.num → y.den ≡ z.den → w ≈ℚ x *ℚ y → w ≈ℚ x *ℚ z
product_same x y z w n d e = record { same = rw (n, d) at e.same }

range_same : (x y z : ℚ) → y.num ≡ z.num → y.den ≡ z.den → IsInRange (x *ℚ y) → IsInRange (x *ℚ z)
range_same x y z n d r = record { terms = r.terms; same = product_same x y z r.terms n d r.same; small = r.small }

pub by_inverse : (x y z : Frac) (r : Result Frac NumFault) → y.numer ≢ pos 0 → z.numer ≡ (inverse_ℚ (value_of y)).num → z.denom ≡ (inverse_ℚ (value_of y)).den → MatchResult r (λ f. CanMultiply x z × (value_of f ≈ℚ value_of x *ℚ value_of z)) (λ e. (e ≡ Wide) × ¬ CanMultiply x z) → MatchResult r (λ f. IsNotZero (value_of y) × CanDivide x y × (value_of f ≈ℚ value_of x /ℚ value_of y)) (RefusesQuotient (value_of y) (¬ CanDivide x y))
by_inverse x y z (Ok f) k n d h =
    let value = product_same (value_of x) (value_of z) (inverse_ℚ (value_of y)) (value_of f) n d h.1 in
    (not_zero (value_of y) k, in_range f _ value, value)
by_inverse x y z (Err e) k n d h =
    subst (λ (w : NumFault). RefusesQuotient (value_of y) (¬ CanDivide x y) w) (sym h.0)
    (not_zero (value_of y) k, λ r. h.1 (range_same (value_of x) (inverse_ℚ (value_of y)) (value_of z) (sym n) (sym d) r))
