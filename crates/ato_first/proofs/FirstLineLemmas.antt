-- Numbers of few digits.
use Rattle.std.proofs.Common.{◌≡◌, ℕ, true, ◌&&◌, List, [], ◌∷◌, length, ap, sym, ◌∙◌, refl}
use Rattle.std.specs.Prelude.{Some, None, if◌then◌else◌, nat_le}
use Rattle.std.specs.Char.{is_ascii_digit}
use Rattle.std.specs.List.{list_all}
use Rattle.ato_first.specs.FirstForm.{is_digit, is_short_number}
use Rattle.ato_first_catalog.specs.Ranges.{digits_value, number_of}

digits_same : (text : List ℕ) → list_all is_digit text ≡ list_all is_ascii_digit text
digits_same [] = refl
digits_same (b ∷ text) = ap (λ rest. is_digit b && rest) (digits_same text)

-- Digits that are few enough have their number.
pub short_number : (text : List ℕ) → is_short_number text ≡ true → number_of text ≡ Some (digits_value text)
unfolding number_of
short_number text h =
    let same : (nat_le 1 (length text) && nat_le (length text) 18 && list_all is_ascii_digit text) ≡ true =
    ap (λ d. nat_le 1 (length text) && nat_le (length text) 18 && d) (sym (digits_same text)) ∙ h in
    ap (λ b. if b then Some (digits_value text) else None) same
