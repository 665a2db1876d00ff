-- What holds of rows in which no fault stands.
use Rattle.std.proofs.Common.{◌≡◌, ◌<◌, ◌≤◌, ◌+◌, ◌++◌, ◌∷◌, [], ℕ, zero, suc, List, Bool, true, false, Option, Some, None, Err, length, get_or, take, refl, arith}
use Rattle.std.specs.Prelude.{nat_le, if◌then◌else◌, option_map}
use Rattle.std.specs.Option.{option_or}
use Rattle.std.proofs.lemmas.List.{take_all, length-append}
use Rattle.std.proofs.lemmas.Bool.Decides.{nat_tests}
use Rattle.ato_base.specs.declared.faults.Fault.{Fault}
use Rattle.ato_base.specs.declared.faults.FaultKind.{FaultKind}
use Rattle.ato_base.specs.declared.faults.FaultKind.TheVariants as fault
use Rattle.ato_first_catalog.specs.Contents.{contents_in, fault_at, first_fault, is_taken, no_header, row_fault, unless_fault}
use Rattle.ato_first_catalog.specs.Header.{is_header, layout_of}
use Rattle.ato_first_catalog.specs.Limits.{most_rows}
use Rattle.ato_first_catalog.specs.Rows.{bad_column, cells_fault, is_bad_cell, part_in}
use Rattle.ato_first_catalog.specs.declared.header.Layout.{Layout}

-- a choice between two faults is none only where both are
or-none : {X : Type 0} (a b : Option X) → option_or a b ≡ None → (a ≡ None) × (b ≡ None)
or-none None b e = (refl, e)
or-none (Some x) b e = cc e

map-none : {X Y : Type 0} (f : X → Y) (a : Option X) → option_map f a ≡ None → a ≡ None
map-none f None e = refl
map-none f (Some x) e = cc e

-- the fault of a part that is taken
abbrev twice : Layout → Bool → Option (FaultKind × ℕ)
twice layout taken = if taken then Some (fault.PartTwice, layout.part) else None

-- A row is none too many, its cells are good, and its part is not taken.
pub record HasNoFault (layout : Layout) (before : ℕ) (taken : Bool) (cells : List (List ℕ)) : Type 0 where
  pub few : before < most_rows
  pub good : cells_fault layout cells ≡ None
  pub new : taken ≡ false

pub row_fault-none : (layout : Layout) (before : ℕ) (taken : Bool) (cells : List (List ℕ)) → row_fault layout before taken cells ≡ None → HasNoFault layout before taken cells
unfolding row_fault
row_fault-none layout before taken cells e = by_count (nat_le most_rows before) refl e
  where
    not_taken : (b : Bool) → twice layout b ≡ None → b ≡ false
    not_taken true h = cc h
    not_taken false h = refl

    by_count : (b : Bool) → nat_le most_rows before ≡ b
        → (if b then Some (fault.TooManyRows, 0) else option_or (cells_fault layout cells) (twice layout taken)) ≡ None
        → HasNoFault layout before taken cells
    by_count true over h = cc h
    by_count false over h =
        let both = or-none (cells_fault layout cells) (twice layout taken) h in
        record { few = grind (arith, nat_tests); good = both.0; new = not_taken taken both.1 }

pub first_fault-none : (layout : Layout) (parts : List (List ℕ)) (cells : List (List ℕ)) (rows : List (List (List ℕ))) → first_fault layout parts (cells ∷ rows) ≡ None
    → HasNoFault layout (length parts) (is_taken parts (part_in layout cells)) cells × (first_fault layout (parts ++ part_in layout cells ∷ []) rows ≡ None)
unfolding first_fault
first_fault-none layout parts cells rows e =
    let both = or-none _ _ e in
    (row_fault-none layout (length parts) (is_taken parts (part_in layout cells)) cells (map-none _ _ both.0), both.1)

pub few-rows : (layout : Layout) (parts : List (List ℕ)) (rows : List (List (List ℕ))) → length parts ≤ most_rows → first_fault layout parts rows ≡ None → length parts + length rows ≤ most_rows
few-rows layout parts [] few e = omega arith
few-rows layout parts (cells ∷ rows) few e =
    let (here, later) = first_fault-none layout parts cells rows e in
    let more = length-append parts (part_in layout cells ∷ []) in
    let rest = few-rows layout (parts ++ part_in layout cells ∷ []) rows (omega (arith, here.few)) later in
    omega arith

-- the rows that may be and one more tell as much as all of them
first_fault-take : (layout : Layout) (parts : List (List ℕ)) (rows : List (List (List ℕ))) (n : ℕ) → length parts + n ≡ most_rows + 1 → length parts ≤ most_rows
    → first_fault layout parts (take n rows) ≡ first_fault layout parts rows
unfolding first_fault
first_fault-take layout parts [] zero count few = refl
first_fault-take layout parts [] (suc n) count few = refl
first_fault-take layout parts (cells ∷ rows) zero count few = absurd (omega arith)
first_fault-take layout parts (cells ∷ rows) (suc n) count few =
    by (row_fault layout (length parts) (is_taken parts (part_in layout cells)) cells) refl (first_fault-take layout (parts ++ part_in layout cells ∷ []) rows n)
  where
    by : (found : Option (FaultKind × ℕ)) → row_fault layout (length parts) (is_taken parts (part_in layout cells)) cells ≡ found
        → (length (parts ++ part_in layout cells ∷ []) + n ≡ most_rows + 1 → length (parts ++ part_in layout cells ∷ []) ≤ most_rows
        → first_fault layout (parts ++ part_in layout cells ∷ []) (take n rows) ≡ first_fault layout (parts ++ part_in layout cells ∷ []) rows)
        → option_or (option_map (λ found. fault_at found.0 (length parts + 1) found.1) (row_fault layout (length parts) (is_taken parts (part_in layout cells)) cells))
        (first_fault layout (parts ++ part_in layout cells ∷ []) (take n rows))
        ≡ option_or (option_map (λ found. fault_at found.0 (length parts + 1) found.1) (row_fault layout (length parts) (is_taken parts (part_in layout cells)) cells))
        (first_fault layout (parts ++ part_in layout cells ∷ []) rows)
    by (Some found) e later = rw e refl
    by None e later =
        let here = row_fault-none layout (length parts) (is_taken parts (part_in layout cells)) cells e in
        let more = length-append parts (part_in layout cells ∷ []) in
        rw e (later (omega arith) (omega (arith, here.few)))

-- the header, the rows that may be and one more tell as much as all records
pub contents_in-take : (records : List (List (List ℕ))) (n : ℕ) → n ≡ most_rows + 1 → contents_in (take (suc n) records) ≡ contents_in records
unfolding contents_in
contents_in-take [] n many = refl
contents_in-take (header ∷ rows) n many =
    let same = first_fault-take (layout_of header) [] rows n (omega arith) (omega arith) in
    rw same (by (is_header header) (first_fault (layout_of header) [] rows) refl)
  where
    by : (named : Bool) (found : Option Fault) → first_fault (layout_of header) [] rows ≡ found
        → (if named then unless_fault (first_fault (layout_of header) [] rows) (layout_of header) (take n rows) else Err no_header)
        ≡ (if named then unless_fault (first_fault (layout_of header) [] rows) (layout_of header) rows else Err no_header)
    by false found e = refl
    by true (Some found) e = rw e refl
    by true None e =
        let few = few-rows (layout_of header) [] rows (omega arith) e in
        let all : length rows ≤ n = omega arith in
        rw (take_all n rows all) refl

-- Where no column has a bad cell, each cell is good: so under an attribute it is empty or a range.
pub good_cell : (layout : Layout) (cells : List (List ℕ)) (column i : ℕ) → bad_column layout column cells ≡ None → i < length cells → is_bad_cell layout (column + i) (get_or cells i []) ≡ false
unfolding bad_column
good_cell layout [] column i e inside = absurd (omega arith)
good_cell layout (cell ∷ cells) column i e inside = by (is_bad_cell layout column cell) refl e i inside (good_cell layout cells (column + 1))
  where
    by : (b : Bool) → is_bad_cell layout column cell ≡ b → (if b then Some column else bad_column layout (column + 1) cells) ≡ None
        → (i : ℕ) → i < length (cell ∷ cells)
        → ((k : ℕ) → bad_column layout (column + 1) cells ≡ None → k < length cells → is_bad_cell layout (column + 1 + k) (get_or cells k []) ≡ false)
        → is_bad_cell layout (column + i) (get_or (cell ∷ cells) i []) ≡ false
    by true bad h i inside more = cc h
    by false good h zero inside more = let same : column + 0 ≡ column = omega arith in rw same good
    by false good h (suc k) inside more = let same : column + suc k ≡ column + 1 + k = omega arith in rw same (more k h (omega arith))
