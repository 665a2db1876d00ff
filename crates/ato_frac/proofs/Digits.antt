-- The value of digits, read one by one.
use Rattle.std.proofs.Common.{◌≡◌, ℕ, ◌+◌, ◌*◌, ◌-◌, ◌<◌, ◌≤◌, zero, suc, Bool, true, false, ◌&&◌, List, [], ◌∷◌, ◌++◌, length, refl, ap, sym, ◌∙◌, arith, take, drop, take-append-drop, get_or}
use Rattle.std.specs.Prelude.{nat_le}
use Rattle.std.specs.List.{list_all}
use Rattle.std.specs.Char.{is_ascii_digit}
use Rattle.std.proofs.lemmas.Bool.{leb-true}
use Rattle.std.proofs.lemmas.List.{take_more}
use Rattle.std.proofs.lemmas.List.Sums.{fold-append}
use Rattle.ato_frac.specs.Numbers.{digits_after}
use Rattle.ato_frac.specs.Trimmed.{IsTooLong}
use Rattle.ato_frac.proofs.Trimming.{too_long_more}

-- the value after one more digit
abbrev next : ℕ → ℕ → ℕ
next value digit = value * 10 + (digit - 48)

pub digits_more : (n : ℕ) (xs : List ℕ) (k : ℕ) → k < length xs → digits_after n (take (k + 1) xs) ≡ digits_after n (take k xs) * 10 + (get_or xs k 0 - 48)
digits_more n xs k h = ap (digits_after n) (take_more xs k 0 h) ∙ fold-append next n (take k xs) (get_or xs k 0 ∷ [])

pub digits_after-append : (n : ℕ) (xs ys : List ℕ) → digits_after n (xs ++ ys) ≡ digits_after (digits_after n xs) ys
digits_after-append n xs ys = fold-append next n xs ys

pub and_true : (a b : Bool) → (a && b) ≡ true → (a ≡ true) × (b ≡ true)
and_true true b h = (refl, h)
and_true false b h = absurd (cc)

pub digit_range : (b : ℕ) → is_ascii_digit b ≡ true → (48 ≤ b) × (b - 48 < 10)
digit_range b h =
    let t = and_true (nat_le 48 b) (nat_le b 57) h in
    let low = leb-true 48 b t.0 in
    let high = leb-true b 57 t.1 in
    (low, omega arith)

pub digits_drop : (xs : List ℕ) (k : ℕ) → list_all is_ascii_digit xs ≡ true → list_all is_ascii_digit (drop k xs) ≡ true
digits_drop xs zero h = h
digits_drop [] (suc k) h = h
digits_drop (x ∷ xs) (suc k) h = digits_drop xs k (and_true (is_ascii_digit x) (list_all is_ascii_digit xs) h).1

-- digits that are too many stay so
pub too_long_after : (xs : List ℕ) (n : ℕ) → list_all is_ascii_digit xs ≡ true → IsTooLong n → IsTooLong (digits_after n xs)
too_long_after [] n h long = long
too_long_after (x ∷ xs) n h long =
    let t = and_true (is_ascii_digit x) (list_all is_ascii_digit xs) h in
    too_long_after xs (n * 10 + (x - 48)) t.1 (too_long_more n (x - 48) (digit_range x t.0).1 long)

pub too_long_prefix : (n : ℕ) (xs : List ℕ) (k : ℕ) → list_all is_ascii_digit xs ≡ true → IsTooLong (digits_after n (take k xs)) → IsTooLong (digits_after n xs)
too_long_prefix n xs k h long =
    let e : digits_after n xs ≡ digits_after (digits_after n (take k xs)) (drop k xs) = ap (digits_after n) (sym (take-append-drop k xs)) ∙ fold-append next n (take k xs) (drop k xs) in
    rw e (too_long_after (drop k xs) (digits_after n (take k xs)) (digits_drop xs k h) long)

after_grows : (xs : List ℕ) (n : ℕ) → n ≤ digits_after n xs
after_grows [] n = omega arith
after_grows (x ∷ xs) n = omega (arith, after_grows xs (n * 10 + (x - 48)))

pub prefix_grows : (n : ℕ) (xs : List ℕ) (k : ℕ) → digits_after n (take k xs) ≤ digits_after n xs
prefix_grows n xs k =
    let e : digits_after n xs ≡ digits_after (digits_after n (take k xs)) (drop k xs) = ap (digits_after n) (sym (take-append-drop k xs)) ∙ fold-append next n (take k xs) (drop k xs) in
    omega (arith, e, after_grows (drop k xs) (digits_after n (take k xs)))

-- more digits after some that are too many
pub too_long_append : (n : ℕ) (xs ys : List ℕ) → list_all is_ascii_digit ys ≡ true → IsTooLong (digits_after n xs) → IsTooLong (digits_after n (xs ++ ys))
too_long_append n xs ys h long = rw (digits_after-append n xs ys) (too_long_after ys (digits_after n xs) h long)
