-- Whole numbers as rational values.
use Rattle.std.proofs.Common.{◌%◌, ◌^◌, ◌<◌, ◌≤◌, ℕ, pos, arith}
use Rattle.std.specs.Int.{IsGcd}
use Rattle.std.proofs.lemmas.Nat.Gcd.{IsGcd-from_mod, IsGcd-from_zero}
use Rattle.ato_frac.specs.Range.{IsInRange}
use Rattle.ato_rational.specs.Rational.{ℚ, ◌≈ℚ◌, ◌≤ℚ◌, ◌/ℚ◌, whole}
use Rattle.ato_rational.proofs.Fields.{*ℚ_one}
use Rattle.ato_rational.proofs.Order.{≈ℚ_sym, ≈ℚ-≤ℚ, ≤ℚ_trans}
use Rattle.ato_rational.proofs.RationalRing.{rat, at_most}

-- n / 1 is n
pub over_one : (n : ℕ) → whole (pos n) /ℚ whole (pos 1) ≈ℚ whole (pos n)
over_one n = record { same = (*ℚ_one (whole (pos n))).same }

-- whole numbers have fractions
pub whole_in_range : (n : ℕ) → n < 2 ^ 64 → IsInRange (whole (pos n) /ℚ whole (pos 1))
whole_in_range n small =
    let by_one : IsGcd n 1 1 = IsGcd-from_mod n 1 1 (IsGcd-from_zero 1 (n % 1) (omega arith)) in
    let room : 2 ^ 64 ≤ 2 ^ 127 = omega arith in
    record {
      terms = whole (pos n);
      same = ≈ℚ_sym (over_one n);
      small = record { lowest = by_one; num_small = omega arith; den_small = omega arith };
    }

-- whole numbers in order have values in order
pub whole_at_most : (low high : ℕ) → low ≤ high → whole (pos low) ≤ℚ whole (pos high)
whole_at_most low high h = at_most (rat (whole (pos low))) (rat (whole (pos high))) (omega arith)

pub at_most_from_whole : (x y : ℚ) (low high : ℕ) → x ≈ℚ whole (pos low) → y ≈ℚ whole (pos high) → low ≤ high → x ≤ℚ y
at_most_from_whole x y low high same_low same_high h =
    ≤ℚ_trans (≈ℚ-≤ℚ same_low) (≤ℚ_trans (whole_at_most low high h) (≈ℚ-≤ℚ (≈ℚ_sym same_high)))
