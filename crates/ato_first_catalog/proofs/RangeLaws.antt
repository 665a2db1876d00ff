-- The texts of ranges, as they are written.
use Rattle.std.proofs.Common.{◌≡◌, ◌≤◌, ◌⊎◌, inl, inr, ◌++◌, ◌∷◌, [], ℕ, List, Bool, true, false, Option, Some, None, length, take, drop, refl, sym, ap, arith, ◌∙◌, codes}
use Rattle.std.specs.Prelude.{◌==◌, ◌&&◌, nat_eq, nat_le, if◌then◌else◌, option_and_then}
use Rattle.std.specs.Char.{is_ascii_digit}
use Rattle.std.specs.List.{list_all, prefix_len, starts_with}
use Rattle.std.proofs.lemmas.Bool.Decides.{nat_tests}
use Rattle.std.proofs.lemmas.List.{append-nil, length-drop, take_all}
use Rattle.std.proofs.lemmas.Slice.Eq.{bytes_eq-Decides}
use Rattle.std.proofs.Math.Seq.{drop-append_seam, take-append_seam}
use Rattle.std.proofs.Math.ListN.{take-append-drop}
use Rattle.ato_first_catalog.proofs.CellLaws.{and-true}
use Rattle.ato_first_catalog.specs.Ranges.{between, digits_value, number_of, range_of, up_to}

-- A cell is the text of a range with these ends: 1 to 18 digits of both, or those of the first, ` to `, and those of the
-- second, which is not below it.
abbrev pub IsRangeText : List ℕ → ℕ → ℕ → Type 0
IsRangeText cell low high =
    ((number_of cell ≡ Some low) × (high ≡ low))
    ⊎ ((first second : List ℕ) × (cell ≡ first ++ (codes " to " ++ second)) × (number_of first ≡ Some low) × (number_of second ≡ Some high) × (low ≤ high))

abbrev ends : ℕ → ℕ → ℕ × ℕ
ends low high = (low, high)

-- a range with these ends
abbrev range : ℕ → ℕ → Option (ℕ × ℕ)
range low high = Some (low, high)

same-ends : (a b c d : ℕ) → range a b ≡ range c d → (a ≡ c) × (b ≡ d)
same-ends a b c d e =
    let pair : ends a b ≡ ends c d = cc e in
    (ap (λ (p : ℕ × ℕ). p.0) pair, ap (λ (p : ℕ × ℕ). p.1) pair)

-- what follows from the first number and what stands behind it
from-rest : (cell : List ℕ) (split n low high : ℕ) → number_of (take split cell) ≡ Some n → up_to n (drop split cell) ≡ Some (low, high) → IsRangeText cell low high
unfolding up_to
from-rest cell split n low high first e = by_end (length (drop split cell) == 0) refl e
  where
    by_second : (o : Option ℕ) → number_of (drop 4 (drop split cell)) ≡ o → codes " to " ≡ take 4 (drop split cell) → option_and_then (between n) o ≡ Some (low, high) → IsRangeText cell low high
    by_second None f there h = cc h
    by_second (Some m) f there h = by_order (nat_le n m) refl h
      where
        by_order : (b : Bool) → nat_le n m ≡ b → (if b then range n m else None) ≡ range low high → IsRangeText cell low high
        by_order true order k =
            let same = same-ends n m low high k in
            let text : cell ≡ take split cell ++ (codes " to " ++ drop 4 (drop split cell)) =
            sym (take-append-drop split cell)
            ∙ ap (λ more. take split cell ++ more) (sym (take-append-drop 4 (drop split cell)) ∙ ap (λ front. front ++ drop 4 (drop split cell)) (sym there))
            in
            let le : n ≤ m = grind (arith, nat_tests) in
            inr (take split cell, drop 4 (drop split cell), text, first ∙ ap Some same.0, f ∙ ap Some same.1, rw (← same.0, ← same.1) le)
        by_order false order k = cc k

    by_start : (b : Bool) → starts_with nat_eq (drop split cell) (codes " to ") ≡ b → (if b then option_and_then (between n) (number_of (drop 4 (drop split cell))) else None) ≡ Some (low, high) → IsRangeText cell low high
    by_start true there h = by_second (number_of (drop 4 (drop split cell))) refl ((bytes_eq-Decides (codes " to ") (take 4 (drop split cell))).0 there) h
    by_start false there h = cc h

    by_end : (b : Bool) → (length (drop split cell) == 0) ≡ b
        → (if b then range n n else if starts_with nat_eq (drop split cell) (codes " to ") then option_and_then (between n) (number_of (drop 4 (drop split cell))) else None) ≡ Some (low, high)
        → IsRangeText cell low high
    by_end true empty h =
        let same = same-ends n n low high h in
        let none : length (drop split cell) ≡ 0 = grind (arith, nat_tests) in
        let size = length-drop split cell in
        let whole : take split cell ≡ cell = take_all split cell (omega arith) in
        inl (rw (← whole) (first ∙ ap Some same.0), sym same.1 ∙ same.0)
    by_end false empty h = by_start (starts_with nat_eq (drop split cell) (codes " to ")) refl h

-- A cell has a range only where it is the text of it,
pub range_text : (cell : List ℕ) (low high : ℕ) → range_of cell ≡ Some (low, high) → IsRangeText cell low high
unfolding range_of
range_text cell low high e = by (number_of (take (prefix_len is_ascii_digit cell) cell)) refl e
  where
    by : (o : Option ℕ) → number_of (take (prefix_len is_ascii_digit cell) cell) ≡ o
        → option_and_then (λ n. up_to n (drop (prefix_len is_ascii_digit cell) cell)) o ≡ Some (low, high) → IsRangeText cell low high
    by None f h = cc h
    by (Some n) f h = from-rest cell (prefix_len is_ascii_digit cell) n low high f h

digits-number_of : (text : List ℕ) (n : ℕ) → number_of text ≡ Some n → list_all is_ascii_digit text ≡ true
unfolding number_of
digits-number_of text n e = by (nat_le 1 (length text) && nat_le (length text) 18) (list_all is_ascii_digit text) refl e
  where
    by : (b d : Bool) → list_all is_ascii_digit text ≡ d → (if b && d then Some (digits_value text) else None) ≡ Some n → list_all is_ascii_digit text ≡ true
    by b true f h = f
    by true false f h = cc h
    by false false f h = cc h

prefix-digits : (digits rest : List ℕ) → list_all is_ascii_digit digits ≡ true → prefix_len is_ascii_digit rest ≡ 0 → prefix_len is_ascii_digit (digits ++ rest) ≡ length digits
prefix-digits [] rest all stops = stops
prefix-digits (digit ∷ digits) rest all stops =
    let both = and-true (is_ascii_digit digit) (list_all is_ascii_digit digits) all in
    let more = prefix-digits digits rest both.1 stops in rw both.0 (omega arith)

-- digits are read up to the first byte that is none
range-split : (digits rest : List ℕ) (low : ℕ) → number_of digits ≡ Some low → prefix_len is_ascii_digit rest ≡ 0 → range_of (digits ++ rest) ≡ up_to low rest
unfolding range_of
range-split digits rest low e stops =
    let split = prefix-digits digits rest (digits-number_of digits low e) stops in
    rw (split, take-append_seam digits rest, drop-append_seam digits rest, e) refl

one-number : (low : ℕ) → up_to low [] ≡ Some (low, low)
unfolding up_to
one-number low = refl

two-numbers : (low : ℕ) (second : List ℕ) → up_to low (codes " to " ++ second) ≡ option_and_then (between low) (number_of second)
unfolding up_to
two-numbers low second =
    let full : (length (codes " to " ++ second) == 0) ≡ false = grind (arith, nat_tests) in
    rw full refl

ordered : (low high : ℕ) → low ≤ high → between low high ≡ Some (low, high)
ordered low high h = let test : nat_le low high ≡ true = grind (arith, nat_tests) in rw test refl

-- and has it wherever it is.
pub range_there : (cell : List ℕ) (low high : ℕ) → IsRangeText cell low high → range_of cell ≡ Some (low, high)
range_there cell low high (inl one) =
    let whole = range-split cell [] low one.0 refl in
    let same : cell ++ [] ≡ cell = append-nil cell in
    rw (← same, whole, one-number low, one.1) refl
range_there cell low high (inr two) =
    let (first, second, text, e, f, h) = two in
    rw (text, range-split first (codes " to " ++ second) low e refl, two-numbers low second, f) (ordered low high h)
