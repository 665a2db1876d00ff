-- Small powers of ten, and the opposites of small fractions.
use Rattle.std.proofs.Common.{◌≡◌, zero, suc, ℤ, pos, negsuc, neg_ℤ, unsigned_abs, refl, arith}
use Rattle.std.proofs.lemmas.Int.{ints, to_z-of_z}
use mir.Syntax.{w32}
use mir.Val.{SFits, to_z, of_z}
use Rattle.ato_frac.specs.Range.{IsSmallAndLowest}
use Rattle.ato_rational.specs.Rational.{ℚ, neg_ℚ}
use Rattle.ato_units.specs.Fractions.{IsSmallPower}

pub power_fits : (z : ℤ) → IsSmallPower z → SFits w32 z
power_fits (pos n) h = record { sfits = omega (arith, ints, h.high) }
power_fits (negsuc n) h = record { sfits = omega (arith, ints, h.low) }

pub passed_small : (z : ℤ) → IsSmallPower z → IsSmallPower (to_z w32 (of_z w32 z))
passed_small z h = rw (to_z-of_z w32 z (power_fits z h)) h

unsigned_abs-neg : (z : ℤ) → unsigned_abs (neg_ℤ z) ≡ unsigned_abs z
unsigned_abs-neg (pos zero) = refl
unsigned_abs-neg (pos (suc n)) = refl
unsigned_abs-neg (negsuc n) = refl

pub opposite_small : (x : ℚ) → IsSmallAndLowest x → IsSmallAndLowest (neg_ℚ x)
opposite_small x h =
    record {
      lowest = rw (unsigned_abs-neg x.num) h.lowest;
      num_small = rw (unsigned_abs-neg x.num) h.num_small;
      den_small = h.den_small;
    }
