-- Numbers compared by their bytes and by their characters, and small values.
use Rattle.std.proofs.Common.{◌≡◌, ℕ, ◌<◌, Bool, true, false, List, [], ◌∷◌, ◌++◌, take, Some, None, refl, sym, ap, subst, ◌∙◌, arith, if◌then◌else◌}
use Rattle.std.specs.Prelude.{nat_le}
use Rattle.std.specs.Char.{is_ascii_digit}
use Rattle.std.specs.List.{list_all}
use Rattle.std.specs.Str.{chars, IsUtf8, IsAscii}
use Rattle.std.proofs.lemmas.Bool.{lt-leb}
use Rattle.std.proofs.lemmas.List.Elements.{All-cons, All-nil}
use Rattle.std.proofs.lemmas.Str.{encodes-chars, encodes-IsAscii, chars-IsAscii, IsAscii-append}
use Rattle.std.proofs.lemmas.Str.Ascii.{IsAscii-from_all, IsAscii-nil}
use Rattle.ato_frac.specs.declared.faults.DecimalFault.TheVariants.{BadText, Wide}
use Rattle.ato_frac.specs.declared.fraction.Frac.{Frac}
use Rattle.ato_frac.specs.Decimals.{IsReadable, Reads, RefusesText}
use Rattle.ato_frac.specs.Numbers.{Parts, IsNumber, IsFraction, no_point, point, IsSigned, plain, plus, minus, IsExponent, no_exponent, lower, upper, digits_value, number_value}
use Rattle.ato_frac.proofs.Digits.{and_true, digit_range, prefix_grows}
use Rattle.ato_frac.proofs.Grammar.{number_unique}
use Rattle.ato_lexer.specs.Tokens.{small_value}
use Rattle.ato_lexer.specs.WideNumbers.{is_wide}
use Rattle.ato_lexer.proofs.WideLaws.{wide_refused, refused_wide}

-- a number is written in ASCII

one : (c : ℕ) → c < 128 → IsAscii (c ∷ [])
one c h = IsAscii-from_all (c ∷ []) (All-cons (λ (b : ℕ). b < 128) c [] h (All-nil (λ (b : ℕ). b < 128)))

digits_ascii : (xs : List ℕ) → list_all is_ascii_digit xs ≡ true → IsAscii xs
digits_ascii [] h = IsAscii-nil
digits_ascii (x ∷ xs) h =
    let t = and_true (is_ascii_digit x) (list_all is_ascii_digit xs) h in
    let r = digit_range x t.0 in
    IsAscii-append (x ∷ []) xs (one x (omega (arith, r.0, r.1))) (digits_ascii xs t.1)

fraction_ascii : (text digits : List ℕ) → IsFraction text digits → IsAscii text
fraction_ascii text digits (no_point t d) = rw t IsAscii-nil
fraction_ascii text digits (point t d) = rw t (IsAscii-append (46 ∷ []) digits (one 46 (omega arith)) (digits_ascii digits d.all))

signed_ascii : (text : List ℕ) (negative : Bool) (digits : List ℕ) → IsSigned text negative digits → IsAscii text
signed_ascii text negative digits (plain t n d) = rw t (digits_ascii digits d.all)
signed_ascii text negative digits (plus t n d) = rw t (IsAscii-append (43 ∷ []) digits (one 43 (omega arith)) (digits_ascii digits d.all))
signed_ascii text negative digits (minus t n d) = rw t (IsAscii-append (45 ∷ []) digits (one 45 (omega arith)) (digits_ascii digits d.all))

exponent_ascii : (text : List ℕ) (negative : Bool) (digits : List ℕ) → IsExponent text negative digits → IsAscii text
exponent_ascii text negative digits (no_exponent t n d) = rw t IsAscii-nil
exponent_ascii text negative digits (lower signed t s) = rw t (IsAscii-append (101 ∷ []) signed (one 101 (omega arith)) (signed_ascii signed negative digits s))
exponent_ascii text negative digits (upper signed t s) = rw t (IsAscii-append (69 ∷ []) signed (one 69 (omega arith)) (signed_ascii signed negative digits s))

number_ascii : (text : List ℕ) (parts : Parts) → IsNumber text parts → IsAscii text
number_ascii text parts n =
    rw n.text_is
    (IsAscii-append parts.whole (n.fraction_text ++ n.exponent_text) (digits_ascii parts.whole n.whole.all)
    (IsAscii-append n.fraction_text n.exponent_text (fraction_ascii n.fraction_text parts.fraction n.fraction) (exponent_ascii n.exponent_text parts.negative parts.exponent n.exponent)))

-- characters that are ASCII are their own bytes
pub own_bytes : (text : List ℕ) → IsUtf8 text → IsAscii (chars text) → chars text ≡ text
own_bytes text u h = sym (encodes-IsAscii (chars text) h) ∙ encodes-chars text u

-- a wide number of characters is one of bytes
wide_bytes : (text : List ℕ) → IsUtf8 text → is_wide (chars text) ≡ true → is_wide text ≡ true
wide_bytes text u h =
    let r = wide_refused (chars text) h in
    sym (ap is_wide (own_bytes text u (number_ascii (chars text) r.0 r.1))) ∙ h

none_wide : (text : List ℕ) → IsUtf8 text → (is_wide text ≡ true → ⊥) → is_wide (chars text) ≡ false
none_wide text u h = by (is_wide (chars text)) refl
  where
    by : (b : Bool) → is_wide (chars text) ≡ b → b ≡ false
    by false e = refl
    by true e = absurd (h (wide_bytes text u e))

-- a number that is read is not wide
pub read_fits : (text bytes : List ℕ) (f : Frac) → IsUtf8 text → bytes ≡ text → Reads bytes f → is_wide (chars text) ≡ false
read_fits text bytes f u e r =
    let s : Reads text f = subst (λ (xs : List ℕ). Reads xs f) e r in
    none_wide text u
    (λ h.
    let w = wide_refused text h in
    let same : s.parts ≡ w.0 = number_unique text s.parts w.0 s.number w.1 in
    w.2 (subst (λ (p : Parts). IsReadable (number_value p)) same s.readable))

-- what is no number is not wide
pub no_number_fits : (text bytes : List ℕ) → IsUtf8 text → bytes ≡ text → RefusesText bytes BadText → is_wide (chars text) ≡ false
no_number_fits text bytes u e r =
    let s : RefusesText text BadText = subst (λ (xs : List ℕ). RefusesText xs BadText) e r in
    none_wide text u (λ h. let w = wide_refused text h in s w.0 w.1)

pub wide_told : (text bytes : List ℕ) → IsUtf8 text → bytes ≡ text → RefusesText bytes Wide → is_wide (chars text) ≡ true
wide_told text bytes u e r =
    let s : RefusesText text Wide = subst (λ (xs : List ℕ). RefusesText xs Wide) e r in
    ap is_wide (chars-IsAscii text (number_ascii text s.0 s.1)) ∙ refused_wide text s

-- where the first digits are too large, all are
pub large_value : (xs : List ℕ) (k : ℕ) → 65535 < digits_value (take k xs) → (if nat_le (digits_value xs) 65535 then Some (digits_value xs) else None) ≡ None
large_value xs k h =
    let large : 65535 < digits_value xs = omega (arith, h, prefix_grows 0 xs k) in
    ap (λ (b : Bool). if b then Some (digits_value xs) else None) (lt-leb (digits_value xs) 65535 large)

-- digits are their own bytes
pub digits_same : (text bytes : List ℕ) → IsUtf8 text → bytes ≡ text → list_all is_ascii_digit (chars text) ≡ true → bytes ≡ chars text
digits_same text bytes u e h = e ∙ sym (own_bytes text u (digits_ascii (chars text) h))

pub small_is : (text bytes : List ℕ) → IsUtf8 text → bytes ≡ text → list_all is_ascii_digit (chars text) ≡ true
    → (if nat_le (digits_value bytes) 65535 then Some (digits_value bytes) else None) ≡ small_value (chars text)
small_is text bytes u e h =
    ap (λ (xs : List ℕ). if nat_le (digits_value xs) 65535 then Some (digits_value xs) else None) (digits_same text bytes u e h) ∙ rw h refl
