-- Laws over the numbers that digits write.
use Rattle.std.proofs.Common.{◌≡◌, ◌<◌, ◌≤◌, ◌+◌, ◌*◌, ◌-◌, ◌^◌, ◌++◌, ◌∷◌, [], ℕ, List, Bool, true, false, Some, None, lit<, length, get_or, take, drop, refl, sym, arith, add-one}
use Rattle.std.specs.Prelude.{◌&&◌, if◌then◌else◌, nat_lt, fold}
use Rattle.std.specs.Char.{is_ascii_digit}
use Rattle.std.specs.List.{list_all}
use Rattle.std.proofs.lemmas.Bool.Decides.{nat_tests}
use Rattle.std.proofs.lemmas.List.{take_all}
use Rattle.std.proofs.Math.Seq.{take-suc}
use Rattle.std.proofs.Math.ListN.{take-append-drop}
use Rattle.ato_catalog.specs.Prices.{digits_value, next_value, number_of}
use Rattle.ato_catalog.proofs.CellLaws.{list_all_fails, list_all_step}

-- the number of more digits behind a number
after : ℕ → List ℕ → ℕ
after value digits = fold (λ value digit. value * 10 + (digit - 48)) value digits

after-append : (value : ℕ) (xs ys : List ℕ) → after value (xs ++ ys) ≡ after (after value xs) ys
unfolding after
after-append value [] ys = refl
after-append value (x ∷ xs) ys = after-append (value * 10 + (x - 48)) xs ys

-- more digits make no number smaller
after-grows : (value : ℕ) (digits : List ℕ) → value ≤ after value digits
unfolding after
after-grows value [] = omega arith
after-grows value (digit ∷ digits) = let more = after-grows (value * 10 + (digit - 48)) digits in omega arith

value-take : (digits : List ℕ) (i : ℕ) → digits_value (take i digits) ≤ digits_value digits
unfolding after
value-take digits i =
    let seam : after 0 (take i digits ++ drop i digits) ≡ after (after 0 (take i digits)) (drop i digits) = after-append 0 (take i digits) (drop i digits) in
    let whole = rw (take-append-drop i digits) at seam in
    let grows = after-grows (after 0 (take i digits)) (drop i digits) in
    omega arith

value-more : (digits : List ℕ) (i : ℕ) → i < length digits → digits_value (take (i + 1) digits) ≡ digits_value (take i digits) * 10 + (get_or digits i 0 - 48)
unfolding after
value-more digits i inside =
    let seam : after 0 (take i digits ++ get_or digits i 0 ∷ []) ≡ after (after 0 (take i digits)) (get_or digits i 0 ∷ []) = after-append 0 (take i digits) (get_or digits i 0 ∷ []) in
    rw (add-one, take-suc digits i 0 inside) seam

-- so many digits at the front have this number
pub record HasRead (digits : List ℕ) (i value : ℕ) : Type 0 where
  pub digits_there : list_all is_ascii_digit (take i digits) ≡ true
  pub value_is : value ≡ digits_value (take i digits)
  pub small : value < 2 ^ 64

pub number_start : (digits : List ℕ) → HasRead digits 0 0
number_start digits = record { digits_there = refl; value_is = refl; small = lit< tt }

pub number_more : (digits : List ℕ) (i value more : ℕ) → HasRead digits i value → i < length digits → next_value value (get_or digits i 0) ≡ Some more → HasRead digits (i + 1) more
number_more digits i value more read inside next = by (is_ascii_digit (get_or digits i 0)) refl (nat_lt (value * 10 + (get_or digits i 0 - 48)) (2 ^ 64)) refl next
  where
    by : (b : Bool) → is_ascii_digit (get_or digits i 0) ≡ b → (small : Bool) → nat_lt (value * 10 + (get_or digits i 0 - 48)) (2 ^ 64) ≡ small
        → (if b && small then Some (value * 10 + (get_or digits i 0 - 48)) else None) ≡ Some more → HasRead digits (i + 1) more
    by true digit true test e =
        let is : value * 10 + (get_or digits i 0 - 48) ≡ more = cc e in
        let below : value * 10 + (get_or digits i 0 - 48) < 2 ^ 64 = grind (arith, nat_tests) in
        record {
          digits_there = list_all_step is_ascii_digit digits i 0 inside read.digits_there digit;
          value_is = rw (value-more digits i inside, ← read.value_is) (sym is);
          small = rw is at below;
        }
    by true digit false test e = cc e
    by false digit small test e = cc e

no_digits : (digits : List ℕ) → list_all is_ascii_digit digits ≡ false → number_of digits ≡ None
unfolding number_of
no_digits digits e = rw e refl

too_great : (digits : List ℕ) → 2 ^ 64 ≤ digits_value digits → number_of digits ≡ None
unfolding number_of
too_great digits great = let test : nat_lt (digits_value digits) (2 ^ 64) ≡ false = grind (arith, nat_tests) in by (list_all is_ascii_digit digits) test
  where
    by : (b : Bool) → nat_lt (digits_value digits) (2 ^ 64) ≡ false → (if b && nat_lt (digits_value digits) (2 ^ 64) then Some (digits_value digits) else None) ≡ None
    by true e = rw e refl
    by false e = refl

pub number_stops : (digits : List ℕ) (i value : ℕ) → HasRead digits i value → i < length digits → next_value value (get_or digits i 0) ≡ None → number_of digits ≡ None
number_stops digits i value read inside next = by (is_ascii_digit (get_or digits i 0)) refl (nat_lt (value * 10 + (get_or digits i 0 - 48)) (2 ^ 64)) refl next
  where
    by : (b : Bool) → is_ascii_digit (get_or digits i 0) ≡ b → (small : Bool) → nat_lt (value * 10 + (get_or digits i 0 - 48)) (2 ^ 64) ≡ small
        → (if b && small then Some (value * 10 + (get_or digits i 0 - 48)) else None) ≡ None → number_of digits ≡ None
    by true digit true small e = cc e
    by true digit false great e =
        let more = value-more digits i inside in
        let front = value-take digits (i + 1) in
        let same = read.value_is in
        let above : 2 ^ 64 ≤ value * 10 + (get_or digits i 0 - 48) = grind (arith, nat_tests) in
        too_great digits (omega arith)
    by false digit small f e = no_digits digits (list_all_fails is_ascii_digit digits i 0 inside digit)

pub number_end : (digits : List ℕ) (i value : ℕ) → HasRead digits i value → length digits ≤ i → value < 2 ^ 64 → number_of digits ≡ Some value
unfolding number_of
number_end digits i value read out small =
    let all = take_all i digits out in
    let digit = rw all at read.digits_there in
    let is = rw all at read.value_is in
    let test : nat_lt value (2 ^ 64) ≡ true = grind (arith, nat_tests) in
    rw (digit, ← is, test) refl
