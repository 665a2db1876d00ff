-- Numbers and fractions at the front of a text are read back.
use Rattle.std.proofs.Common.{true, false, Bool, ◌≡◌, ◌≢◌, ◌⊎◌, ⊎_elim, ℕ, suc, ◌^◌, ◌<◌, ◌≤◌, ℤ, pos, negsuc, ◌*ℤ◌, unsigned_abs, List, [], ◌∷◌, ◌++◌, length, take, drop, Option, Some, None, MatchOption, refl, sym, ap, ◌∙◌, arith, lit≤, append_assoc}
use Rattle.std.specs.Prelude.{codes}
use Rattle.std.specs.List.{prefix_len}
use Rattle.std.specs.Char.{is_ascii_digit, digit_value}
use Rattle.std.specs.Fmt.{decimal, signed_decimal}
use Rattle.std.specs.Str.{IsUtf8}
use Rattle.std.specs.Str.Parse.{AllDigits}
use Rattle.std.proofs.lemmas.Int.{ints, fits_signed_from_abs}
use Rattle.std.specs.Int.{w128}
use Rattle.std.specs.Int.RustNames.{FitsSigned}
use Rattle.std.proofs.lemmas.Bool.{and_from, le-leb}
use Rattle.std.proofs.lemmas.Fmt.{decimal_is_IsNumeral_wide, IsAscii-decimal_wide}
use Rattle.std.proofs.lemmas.Str.{IsUtf8-from_ascii}
use Rattle.std.proofs.lemmas.Str.Parse.{digit_from_value}
use Rattle.std.proofs.Math.Seq.{take-append_seam, drop-append_seam}
use Rattle.ato_frac.specs.declared.fraction.Frac.{Frac}
use Rattle.ato_frac.specs.Fractions.{value_of}
use Rattle.ato_frac.specs.Signed.{signed_of}
use Rattle.ato_frac.specs.Range.{IsInRange}
use Rattle.ato_frac.specs.OneNumber.{fraction_same}
use Rattle.ato_frac.proofs.Ranges.{in_range, as_quotient}
use Rattle.ato_rational.specs.Rational.{◌≈ℚ◌, ◌/ℚ◌, whole}
use Rattle.ato_rational.proofs.Order.{≈ℚ_sym, ≈ℚ_trans}
use Rattle.ato_cert.specs.Reading.{NoDigitFirst, fraction_text}

digit_passes : (d : ℕ) → digit_value d < 10 → is_ascii_digit d ≡ true
digit_passes d h = let r = digit_from_value d h in and_from _ _ (le-leb 48 d r.0) (le-leb d 57 r.1)

prefix_digits : (ds rest : List ℕ) → AllDigits 10 ds → NoDigitFirst rest → prefix_len is_ascii_digit (ds ++ rest) ≡ length ds
prefix_digits [] rest all none = none
prefix_digits (d ∷ ds) rest all none = rw (digit_passes d all.0) (omega (arith, prefix_digits ds rest all.1 none))

-- numbers below 2^127 have at most 64 digits
pub short : (n : ℕ) → n < 2 ^ 127 → n < 10 ^ 64
short n h = let wide : 2 ^ 127 ≤ 10 ^ 64 = lit≤ tt in omega (arith, wide)

digits_end : (n : ℕ) (rest : List ℕ) → n < 2 ^ 127 → NoDigitFirst rest → prefix_len is_ascii_digit (decimal n ++ rest) ≡ length (decimal n)
digits_end n rest h none = prefix_digits (decimal n) rest (decimal_is_IsNumeral_wide n (short n h)).0.1 none

-- the digits that stand first are the number's, and what follows them is the rest

pub front_is : (n : ℕ) (text rest : List ℕ) → n < 2 ^ 127 → NoDigitFirst rest → text ≡ decimal n ++ rest → take (prefix_len is_ascii_digit text) text ≡ decimal n
front_is n text rest h none e = rw (e, digits_end n rest h none) (take-append_seam (decimal n) rest)

pub back_is : (n : ℕ) (text rest : List ℕ) → n < 2 ^ 127 → NoDigitFirst rest → text ≡ decimal n ++ rest → drop (prefix_len is_ascii_digit text) text ≡ rest
back_is n text rest h none e = rw (e, digits_end n rest h none) (drop-append_seam (decimal n) rest)

pub utf8_number : (n : ℕ) → n < 2 ^ 127 → IsUtf8 (decimal n)
utf8_number n h = IsUtf8-from_ascii (decimal n) (IsAscii-decimal_wide n (short n h))

-- a fraction is the one of its own parts
pub made : (f : Frac) (n d : ℤ) (r : Option Frac) → n ≡ (value_of f).num → d ≡ pos (value_of f).den
    → MatchOption r ((d ≡ pos 0) ⊎ ¬ IsInRange (whole n /ℚ whole d)) (λ g. (d ≢ pos 0) × (value_of g ≈ℚ whole n /ℚ whole d)) → r ≡ Some f
made f n d r en ed = by r
  where
    not_zero : d ≢ pos 0
    not_zero e = let p : pos (value_of f).den ≡ pos 0 = sym ed ∙ e in let q : (value_of f).den ≡ 0 = cc in absurd (omega (arith, f.positive))

    same : (f.numer *ℤ d) ≡ (n *ℤ pos f.denom)
    same = rw (en, ed) refl

    value : value_of f ≈ℚ whole n /ℚ whole d
    value = (as_quotient n d (Some f) not_zero same).1

    by : (r : Option Frac) → MatchOption r ((d ≡ pos 0) ⊎ ¬ IsInRange (whole n /ℚ whole d)) (λ g. (d ≢ pos 0) × (value_of g ≈ℚ whole n /ℚ whole d)) → r ≡ Some f
    by None h = absurd (⊎_elim not_zero (λ out. out (in_range f (whole n /ℚ whole d) value)) h)
    by (Some g) h = ap Some (fraction_same g f (≈ℚ_trans h.1 (≈ℚ_sym value)))

pub short_128 : (n : ℕ) → n < 2 ^ 127 → n < 2 ^ 128
short_128 n h = omega arith

-- a byte that is no digit
pub no_digit : (b : ℕ) (rest : List ℕ) → is_ascii_digit b ≡ false → NoDigitFirst (b ∷ rest)
no_digit b rest e = rw e refl

-- the size of a fraction's numerator
pub size_small : (f : Frac) (negative : Bool) (n : ℕ) → (value_of f).num ≡ signed_of negative n → n < 2 ^ 127
size_small f true n e = omega (arith, rw e at f.numer_small, ints)
size_small f false n e = omega (arith, rw e at f.numer_small)

pub signed_fits : (z : ℤ) (negative : Bool) (n : ℕ) → z ≡ signed_of negative n → n < 2 ^ 127 → FitsSigned w128 z
signed_fits z true n e h = fits_signed_from_abs w128 z (rw e (size_of true n h))
  where
    size_of : (b : Bool) (n : ℕ) → n < 2 ^ 127 → unsigned_abs (signed_of b n) < 2 ^ 127
    size_of true n h = omega (arith, ints)
    size_of false n h = h
signed_fits z false n e h = fits_signed_from_abs w128 z (rw e h)

-- the text of a number has a digit first
digit_first : (n : ℕ) (rest : List ℕ) → n < 2 ^ 127 → NoDigitFirst (decimal n ++ rest) → ⊥
digit_first n rest h none =
    let is = decimal_is_IsNumeral_wide n (short n h) in
    at (decimal n) is.0.0 is.0.1 none
  where
    at : (ds : List ℕ) → 0 < length ds → AllDigits 10 ds → NoDigitFirst (ds ++ rest) → ⊥
    at [] l all none = omega arith
    at (d ∷ ds) l all none = let p = rw (digit_passes d all.0) at none in omega (arith, p)

-- the parts of a fraction's text
fraction_parts : (z : ℤ) (d : ℕ) (rest : List ℕ) → (signed_decimal z ++ (codes "/" ++ decimal d)) ++ rest ≡ signed_decimal z ++ (47 ∷ (decimal d ++ rest))
fraction_parts z d rest = append_assoc (signed_decimal z) (codes "/" ++ decimal d) rest

-- a fraction's text with a minus sign first

pub after_minus : (P : Type 0) (f : Frac) (text size rest : List ℕ) → text ≡ fraction_text f ++ rest → text ≡ 45 ∷ size
    → ((n : ℕ) → (value_of f).num ≡ signed_of true n → size ≡ decimal n ++ (47 ∷ (decimal (value_of f).den ++ rest)) → P) → P
after_minus P f text size rest e minus give = by f.numer refl
  where
    by : (z : ℤ) → f.numer ≡ z → P
    by (pos n) q =
        let s : 45 ∷ size ≡ decimal n ++ (47 ∷ (decimal f.denom ++ rest)) =
        sym minus ∙ e ∙ fraction_parts f.numer f.denom rest ∙ ap (λ (z : ℤ). signed_decimal z ++ (47 ∷ (decimal f.denom ++ rest))) q in
        absurd (digit_first n (47 ∷ (decimal f.denom ++ rest)) (size_small f false n q) (rw (← s) (no_digit 45 size refl)))
    by (negsuc k) q =
        let s : 45 ∷ size ≡ 45 ∷ (decimal (suc k) ++ (47 ∷ (decimal f.denom ++ rest))) =
        sym minus ∙ e ∙ fraction_parts f.numer f.denom rest ∙ ap (λ (z : ℤ). signed_decimal z ++ (47 ∷ (decimal f.denom ++ rest))) q in
        give (suc k) q cc

pub without_minus : (P : Type 0) (f : Frac) (text rest : List ℕ) → text ≡ fraction_text f ++ rest → ((behind : List ℕ) → text ≡ 45 ∷ behind → ⊥)
    → ((n : ℕ) → (value_of f).num ≡ signed_of false n → text ≡ decimal n ++ (47 ∷ (decimal (value_of f).den ++ rest)) → P) → P
without_minus P f text rest e no_minus give = by f.numer refl
  where
    at : (z : ℤ) → f.numer ≡ z → text ≡ signed_decimal z ++ (47 ∷ (decimal f.denom ++ rest))
    at z q = e ∙ fraction_parts f.numer f.denom rest ∙ ap (λ (z : ℤ). signed_decimal z ++ (47 ∷ (decimal f.denom ++ rest))) q

    by : (z : ℤ) → f.numer ≡ z → P
    by (pos n) q = give n q (at (pos n) q)
    by (negsuc k) q = absurd (no_minus (decimal (suc k) ++ (47 ∷ (decimal f.denom ++ rest))) (at (negsuc k) q))
