-- Worked rows: sums, products and texts by hand.
use Rattle.std.proofs.Common.{◌≡◌, ◌*◌, ◌/◌, ◌^◌, ◌<◌, pos, true, refl, lit<, arith}
use Rattle.std.specs.Prelude.{codes, None}
use Rattle.std.specs.Int.{IsGcd}
use Rattle.std.proofs.lemmas.Nat.Gcd.{IsGcd-from_zero, IsGcd-from_mod}
use Rattle.ato_frac.specs.Fractions.{Adds}
use Rattle.ato_frac.specs.Numbers.{Parts, IsNumber, point, lower, minus, number_value}
use Rattle.ato_frac.specs.Reading.{read_number}
use Rattle.ato_frac.proofs.Sums.{adds_over}
use Rattle.ato_rational.specs.Rational.{ℚ, ◌≈ℚ◌, ◌+ℚ◌, ◌*ℚ◌}

-- 1 / 3, and the least fraction above 0 whose denominator is a power of 2
abbrev third : ℚ
third = record { num = pos 1; den = 3; positive = lit< tt }

abbrev least : ℚ
least = record { num = pos 1; den = 2 ^ 126; positive = lit< tt }

pub least_twice : Adds least least
least_twice =
    record {
      gcd = 2 ^ 126;
      is_gcd = IsGcd-from_mod (2 ^ 126) (2 ^ 126) (2 ^ 126) (IsGcd-from_zero (2 ^ 126) 0 refl);
      over = record { left = lit< tt; right = lit< tt; sum = lit< tt; common = lit< tt };
    }

pub least_twice_is : least +ℚ least ≈ℚ record { num = pos 1; den = 2 ^ 125; positive = lit< tt }
least_twice_is = record { same = refl }

-- the sum with 1 / 3 has a denominator that is too large
pub third_and_least : ¬ Adds third least
third_and_least r =
    let none : IsGcd 3 (2 ^ 126) 1 = IsGcd-from_mod 3 (2 ^ 126) 1 (IsGcd-from_mod (2 ^ 126) 3 1 (IsGcd-from_mod 3 1 1 (IsGcd-from_zero 1 0 refl))) in
    let s = adds_over third least 1 none r in
    let large : 3 / 1 * 2 ^ 126 < 2 ^ 127 = s.common in
    omega (arith, large)

pub crosswise : (record { num = pos (2 ^ 126); den = 3; positive = lit< tt }) *ℚ (record { num = pos 3; den = 2 ^ 126; positive = lit< tt }) ≈ℚ record { num = pos 1; den = 1; positive = lit< tt }
crosswise = record { same = refl }

-- 2.50e-1 is 1 / 4
abbrev quarter : Parts
quarter = record { whole = codes "2"; fraction = codes "50"; negative = true; exponent = codes "1" }

pub quarter_is_number : IsNumber (codes "2.50e-1") quarter
quarter_is_number =
    record {
      fraction_text = codes ".50";
      exponent_text = codes "e-1";
      text_is = refl;
      whole = record { some = lit< tt; all = refl };
      fraction = point refl (record { some = lit< tt; all = refl });
      exponent = lower (codes "-1") refl (minus refl refl (record { some = lit< tt; all = refl }));
    }

pub quarter_is : number_value quarter ≈ℚ record { num = pos 1; den = 4; positive = lit< tt }
quarter_is = record { same = refl }

-- texts that are no numbers
pub no_numbers : (read_number (codes "") ≡ None) × (read_number (codes "1.") ≡ None) × (read_number (codes ".5") ≡ None) × (read_number (codes "1e") ≡ None) × (read_number (codes "+1") ≡ None) × (read_number (codes " 1") ≡ None)
no_numbers = (refl, refl, refl, refl, refl, refl)
