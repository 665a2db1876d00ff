-- Rows whose numbers rise, and their two sides.
use Rattle.std.proofs.Common.{◌≡◌, ℕ, zero, suc, ◌+◌, ◌*◌, ◌<◌, ◌≤◌, ⊎_elim, List, [], ◌∷◌, ◌++◌, length, get_or, take, drop, refl, sym, ap, ◌∙◌, arith, add-one, length-append, length-take, length-drop, leb}
use Rattle.std.specs.List.{AllByRecursion, Contains}
use Rattle.std.proofs.lemmas.Bool.{le-leb, lt-leb, lt-ltb, le-ltb, cases_lt, cond_both}
use Rattle.std.proofs.lemmas.List.{take-append-drop, get_or_append_left, get_or-append-add}
use Rattle.std.proofs.lemmas.List.Elements.{recursion_from_All}
use Rattle.std.proofs.Math.Seq.{get_or-append_seam, drop-cons, take-suc}
use Rattle.ato_cert.specs.declared.problem.Row.{Row}
use Rattle.ato_cert.specs.Problems.{AreRising}
use Rattle.ato_cert.specs.Justified.{low_side, high_side, IsMiddle}
use Rattle.ato_cert.specs.Halves.{AreHalves}

-- each number is below those after it
abbrev pub Rises : List Row → Type 0
Rises [] = Unit {0}
Rises (row ∷ rows) = AllByRecursion (λ other. row.number < other.number) rows × Rises rows

pub rises_from : (rows : List Row) → AreRising rows → Rises rows
rises_from [] h = tt
rises_from (row ∷ rows) h = (
  recursion_from_All (λ other. row.number < other.number) rows (λ k d l. h 0 (suc k) d (omega arith) (omega arith)),
  rises_from rows (λ i j d l m. h (suc i) (suc j) d (omega arith) (omega arith)),
)

low_none : (n : ℕ) (rows : List Row) → AllByRecursion (λ other. n < other.number) rows → low_side n rows ≡ []
low_none n [] h = refl
low_none n (row ∷ rows) h = rw (lt-leb row.number n h.0) (low_none n rows h.1)

high_all : (n : ℕ) (rows : List Row) → AllByRecursion (λ other. n < other.number) rows → high_side n rows ≡ rows
high_all n [] h = refl
high_all n (row ∷ rows) h = rw (lt-ltb n row.number h.0) (ap (λ l. row ∷ l) (high_all n rows h.1))

-- what holds of all elements holds of one in the middle
at_seam : (P : Row → Type 0) (before : List Row) (row : Row) (after : List Row) → AllByRecursion P (before ++ row ∷ after) → P row
at_seam P [] row after h = h.0
at_seam P (b ∷ bs) row after h = at_seam P bs row after h.1

all_above : (n m : ℕ) → n ≤ m → (rows : List Row) → AllByRecursion (λ other. m < other.number) rows → AllByRecursion (λ other. n < other.number) rows
all_above n m le [] h = tt
all_above n m le (row ∷ rows) h = (omega (arith, h.0), all_above n m le rows h.1)

-- the sides of a row's number are the rows up to it and those after it

pub low_cut : (before : List Row) (row : Row) (after : List Row) → Rises (before ++ row ∷ after) → low_side row.number (before ++ row ∷ after) ≡ before ++ row ∷ []
low_cut [] row after h = rw (le-leb row.number row.number (omega arith)) (ap (λ l. row ∷ l) (low_none row.number after h.0))
low_cut (b ∷ bs) row after h =
    let lt = at_seam (λ other. b.number < other.number) bs row after h.0 in
    rw (le-leb b.number row.number (omega (arith, lt))) (ap (λ l. b ∷ l) (low_cut bs row after h.1))

pub high_cut : (before : List Row) (row : Row) (after : List Row) → Rises (before ++ row ∷ after) → high_side row.number (before ++ row ∷ after) ≡ after
high_cut [] row after h = rw (le-ltb row.number row.number (omega arith)) (high_all row.number after h.0)
high_cut (b ∷ bs) row after h =
    let lt = at_seam (λ other. b.number < other.number) bs row after h.0 in
    rw (le-ltb row.number b.number (omega (arith, lt))) (high_cut bs row after h.1)

-- a number below a row's has only rows before this one up to it
low_few : (n : ℕ) (before : List Row) (row : Row) (after : List Row) → Rises (before ++ row ∷ after) → n < row.number → length (low_side n (before ++ row ∷ after)) ≤ length before
low_few n [] row after h lt =
    rw (lt-leb row.number n lt, low_none n after (all_above n row.number (omega arith) after h.0)) (omega arith)
low_few n (b ∷ bs) row after h lt =
    let rest = low_few n bs row after h.1 lt in
    cond_both (leb b.number n) (b ∷ low_side n (bs ++ row ∷ after)) (low_side n (bs ++ row ∷ after)) (λ l. length l ≤ suc (length bs))
    (λ e. omega (arith, rest)) (λ e. omega (arith, rest))

-- a row in the middle of a list
pub Contains-seam : (before : List Row) (row : Row) (after : List Row) → Contains (before ++ row ∷ after) row
Contains-seam before row after =
    (length before, rw (length-append before (row ∷ after)) (omega arith), get_or-append_seam before row after row)

pub middle_at : (before : List Row) (row : Row) (after : List Row) → Rises (before ++ row ∷ after)
    → length after ≤ length before + 1 → length before ≤ length after → 0 < length after → IsMiddle (before ++ row ∷ after) row.number
middle_at before row after h fits enough some =
    let rows = before ++ row ∷ after in
    let long = length-append before (row ∷ after) in
    let low = ap (λ (l : List Row). length l) (low_cut before row after h) ∙ length-append before (row ∷ []) in
    record {
      row = row;
      is_left = Contains-seam before row after;
      numbered = refl;
      half = omega (arith, long, low);
      least = λ k d l half. ⊎_elim
          (λ lt. absurd (omega (arith, low_few (get_or rows k d).number before row after h lt, long, half)))
          (λ le. le)
          (cases_lt (get_or rows k d).number row.number);
      low_some = omega (arith, low);
      high_some = rw (high_cut before row after h) some;
    }

-- a list, cut at a place
pub divided_at : (rows : List Row) (m : ℕ) (d : Row) → m < length rows → rows ≡ take m rows ++ get_or rows m d ∷ drop (suc m) rows
divided_at rows m d l = sym (take-append-drop m rows) ∙ ap (λ t. take m rows ++ t) (drop-cons rows m d l)

halves_of : (rows before : List Row) (row : Row) (after low high : List Row) → Rises rows → rows ≡ before ++ row ∷ after
    → low ≡ before ++ row ∷ [] → high ≡ after
    → length after ≤ length before + 1 → length before ≤ length after → 0 < length after
    → AreHalves rows low row.number high
halves_of rows before row after low high h e f g fits enough some =
    let h' : Rises (before ++ row ∷ after) = rw e at h in
    record {
      together = rw (e, f, g) (sym (append_one before row after));
      middle = rw e (middle_at before row after h' fits enough some);
      low_is = rw (e, f) (low_cut before row after h');
      high_is = rw (e, g) (high_cut before row after h');
      low_some = rw (f, length-append before (row ∷ [])) (omega arith);
      high_some = rw g some;
    }
  where
    append_one : (xs : List Row) (x : Row) (ys : List Row) → (xs ++ x ∷ []) ++ ys ≡ xs ++ x ∷ ys
    append_one [] x ys = refl
    append_one (z ∷ zs) x ys = ap (λ l. z ∷ l) (append_one zs x ys)

-- rows that are cut after the one at m
pub halves_at : (rows low high : List Row) (m : ℕ) (d : Row) → AreRising rows → low ≡ take (m + 1) rows → high ≡ drop (m + 1) rows
    → 2 * m < length rows → length rows ≤ 2 * (m + 1) → m + 1 < length rows
    → AreHalves rows low (get_or rows m d).number high
halves_at rows low high m d h f g few many more =
    halves_of rows (take m rows) (get_or rows m d) (drop (suc m) rows) low high (rises_from rows h) (divided_at rows m d (omega arith))
    (f ∙ rw add-one (take-suc rows m d (omega arith))) (rw add-one at g)
    (omega (arith, length-take m rows, length-drop (suc m) rows))
    (omega (arith, length-take m rows, length-drop (suc m) rows))
    (omega (arith, length-drop (suc m) rows))

-- what stands before and after in a rising list

pub rising_low : (low high : List Row) → AreRising (low ++ high) → AreRising low
rising_low low high h i j d l m =
    let long = length-append low high in
    let p = h i j d l (omega (arith, long)) in
    rw (get_or_append_left low high d i (omega arith), get_or_append_left low high d j m) at p

pub rising_high : (low high : List Row) → AreRising (low ++ high) → AreRising high
rising_high low high h i j d l m =
    let long = length-append low high in
    let p = h (length low + i) (length low + j) d (omega arith) (omega (arith, long)) in
    rw (get_or-append-add low high i d, get_or-append-add low high j d) at p

-- numbers that rise from each row to the next rise throughout

abbrev pub RiseTo : ℕ → List Row → Type 0
RiseTo n rows = (k : ℕ) (d : Row) → suc k < n → (get_or rows k d).number < (get_or rows (suc k) d).number

steps_rise : (rows : List Row) → RiseTo (length rows) rows → (i j : ℕ) (d : Row) → i < j → j < length rows → (get_or rows i d).number < (get_or rows j d).number
steps_rise rows h i zero d l m = absurd (omega arith)
steps_rise rows h i (suc j) d l m =
    ⊎_elim
    (λ lt. let before = steps_rise rows h i j d lt (omega arith) in let step = h j d m in omega (arith, before, step))
    (λ le. let e : i ≡ j = omega arith in rw e (h j d m))
    (cases_lt i j)

pub rising_since : (rows : List Row) (n : ℕ) → length rows ≤ n → RiseTo n rows → AreRising rows
rising_since rows n l h = steps_rise rows (λ k d m. h k d (omega arith))
