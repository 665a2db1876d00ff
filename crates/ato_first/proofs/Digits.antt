-- The value of digits, read one by one.
use Rattle.std.proofs.Common.{◌≡◌, ℕ, ◌+◌, ◌*◌, ◌-◌, ◌<◌, ◌≤◌, List, [], ◌∷◌, length, ap, sym, ◌∙◌, arith, take, drop, take-append-drop, get_or, if◌then◌else◌}
use Rattle.std.specs.Prelude.{fold, Some, None}
use Rattle.std.proofs.lemmas.Bool.{lt-leb}
use Rattle.std.proofs.lemmas.List.{take_more}
use Rattle.std.proofs.lemmas.List.Sums.{fold-append}
use Rattle.ato_first.specs.FirstTokens.{digits_value, small_value}

-- the value after one more digit
abbrev next : ℕ → ℕ → ℕ
next value digit = value * 10 + (digit - 48)

pub value_more : (xs : List ℕ) (k : ℕ) → k < length xs → digits_value (take (k + 1) xs) ≡ digits_value (take k xs) * 10 + (get_or xs k 0 - 48)
value_more xs k h = ap digits_value (take_more xs k 0 h) ∙ fold-append next 0 (take k xs) (get_or xs k 0 ∷ [])

fold_grows : (xs : List ℕ) (v : ℕ) → v ≤ fold next v xs
fold_grows [] v = omega arith
fold_grows (x ∷ xs) v = omega (arith, fold_grows xs (v * 10 + (x - 48)))

value_grows : (xs : List ℕ) (k : ℕ) → digits_value (take k xs) ≤ digits_value xs
value_grows xs k =
    let whole : digits_value xs ≡ fold next (digits_value (take k xs)) (drop k xs) = ap digits_value (sym (take-append-drop k xs)) ∙ fold-append next 0 (take k xs) (drop k xs) in
    omega (arith, fold_grows (drop k xs) (digits_value (take k xs)))

-- Where the first digits are too large, all are.
pub large_value : (xs : List ℕ) (k : ℕ) → 65535 < digits_value (take k xs) → small_value xs ≡ None
large_value xs k h =
    let large : 65535 < digits_value xs = omega (arith, value_grows xs k) in
    ap (λ b. if b then Some (digits_value xs) else None) (lt-leb (digits_value xs) 65535 large)
