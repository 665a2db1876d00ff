-- Every fault of a catalogue stands in one of its cells or rows.
use Rattle.std.proofs.Common.{◌≡◌, ◌≢◌, ℕ, ◌+◌, Bool, true, false, List, [], ◌∷◌, ◌++◌, length, refl, ap, sym, ◌∙◌, subst}
use Rattle.std.specs.Prelude.{Option, Some, None, Result, Ok, Err, IfSome, if◌then◌else◌, nat_le, option_map}
use Rattle.std.specs.Option.{option_or}
use Rattle.ato_base.specs.declared.faults.Fault.{Fault}
use Rattle.ato_base.specs.declared.faults.FaultKind.{FaultKind}
use Rattle.ato_base.specs.declared.faults.FaultKind.TheVariants as kinds
use Rattle.ato_base.specs.declared.places.Place.TheVariants as places
use Rattle.ato_first_catalog.specs.Contents.{Contents, contents_of, contents_in, unless_fault, first_fault, row_fault, fault_at, is_taken}
use Rattle.ato_first_catalog.specs.Header.{is_header, layout_of}
use Rattle.ato_first_catalog.specs.Limits.{most_rows}
use Rattle.ato_first_catalog.specs.Records.{records_of}
use Rattle.ato_first_catalog.specs.Rows.{cells_fault, bad_column, is_whole, part_in}
use Rattle.ato_first_catalog.specs.declared.header.Layout.{Layout}

-- It stands in a cell, has no second place, and is not that the file is missing.
pub record IsCellFault (f : Fault) : Type 0 where
  pub row : ℕ
  pub column : ℕ
  pub at : f.at ≡ places.Cell row column
  pub other : f.other ≡ None
  pub path : f.path ≡ []
  pub kind : f.kind ≢ kinds.FileMissing

-- the kind of what was found is another
Differs : Option (FaultKind × ℕ) → Type 0
Differs found = IfSome found (λ f. f.0 ≢ kinds.FileMissing)

no_rows_missing : kinds.TooManyRows ≢ kinds.FileMissing
no_rows_missing e = let bad : ⊥ = cc in bad

no_row_missing : kinds.BadRow ≢ kinds.FileMissing
no_row_missing e = let bad : ⊥ = cc in bad

no_cell_missing : kinds.BadCell ≢ kinds.FileMissing
no_cell_missing e = let bad : ⊥ = cc in bad

no_twice_missing : kinds.PartTwice ≢ kinds.FileMissing
no_twice_missing e = let bad : ⊥ = cc in bad

no_header_missing : kinds.NoHeader ≢ kinds.FileMissing
no_header_missing e = let bad : ⊥ = cc in bad

either_differs : (a b : Option (FaultKind × ℕ)) → Differs a → Differs b → Differs (option_or a b)
unfolding Differs
either_differs None b h k = k
either_differs (Some x) b h k = h

cells_differ : (layout : Layout) (cells : List (List ℕ)) → Differs (cells_fault layout cells)
unfolding Differs cells_fault
cells_differ layout cells = by (is_whole layout.width cells) (bad_column layout 1 cells)
  where
    by : (b : Bool) (column : Option ℕ) → IfSome (if b then elim column as (λ _. Option (FaultKind × ℕ)) [ None ↦ None | Some c ↦ Some (kinds.BadCell, c) ] else Some (kinds.BadRow, 0)) (λ f. f.0 ≢ kinds.FileMissing)
    by true None = tt
    by true (Some c) = no_cell_missing
    by false column = no_row_missing

row_differs : (layout : Layout) (before : ℕ) (taken : Bool) (cells : List (List ℕ)) → Differs (row_fault layout before taken cells)
unfolding Differs row_fault
row_differs layout before taken cells = by (nat_le most_rows before)
  where
    twice : (t : Bool) → Differs (if t then Some (kinds.PartTwice, layout.part) else None)
    twice true = no_twice_missing
    twice false = tt

    by : (b : Bool) → IfSome (if b then Some (kinds.TooManyRows, 0) else option_or (cells_fault layout cells) (if taken then Some (kinds.PartTwice, layout.part) else None)) (λ f. f.0 ≢ kinds.FileMissing)
    by true = no_rows_missing
    by false = either_differs (cells_fault layout cells) (if taken then Some (kinds.PartTwice, layout.part) else None) (cells_differ layout cells) (twice taken)

found_in_cell : (row : ℕ) (found : Option (FaultKind × ℕ)) → Differs found → IfSome (option_map (λ f. fault_at f.0 row f.1) found) IsCellFault
unfolding Differs
found_in_cell row None h = tt
found_in_cell row (Some f) h = record { row = row; column = f.1; at = refl; other = refl; path = refl; kind = h }

either_in_cell : (a b : Option Fault) → IfSome a IsCellFault → IfSome b IsCellFault → IfSome (option_or a b) IsCellFault
either_in_cell None b h k = k
either_in_cell (Some f) b h k = h

first_in_cell : (layout : Layout) (parts : List (List ℕ)) (rows : List (List (List ℕ))) → IfSome (first_fault layout parts rows) IsCellFault
unfolding first_fault
first_in_cell layout parts [] = tt
first_in_cell layout parts (cells ∷ rows) =
    either_in_cell (option_map (λ found. fault_at found.0 (length parts + 1) found.1) (row_fault layout (length parts) (is_taken parts (part_in layout cells)) cells)) (first_fault layout (parts ++ part_in layout cells ∷ []) rows)
    (found_in_cell (length parts + 1) (row_fault layout (length parts) (is_taken parts (part_in layout cells)) cells) (row_differs layout (length parts) (is_taken parts (part_in layout cells)) cells))
    (first_in_cell layout (parts ++ part_in layout cells ∷ []) rows)

-- what reading gives: contents, or a fault in a cell
IsRight : Result Contents Fault → Type 0
IsRight (Ok contents) = Unit {0}
IsRight (Err f) = IsCellFault f

unless_right : (found : Option Fault) (layout : Layout) (rows : List (List (List ℕ))) → IfSome found IsCellFault → IsRight (unless_fault found layout rows)
unfolding IsRight
unless_right None layout rows h = tt
unless_right (Some f) layout rows h = h

header_fault : IsCellFault (fault_at kinds.NoHeader 0 0)
header_fault = record { row = 0; column = 0; at = refl; other = refl; path = refl; kind = no_header_missing }

records_right : (records : List (List (List ℕ))) → IsRight (contents_in records)
unfolding IsRight contents_in
records_right [] = header_fault
records_right (header ∷ rows) =
    elim (is_header header) as (λ b. IsRight (if b then unless_fault (first_fault (layout_of header) [] rows) (layout_of header) rows else Err (fault_at kinds.NoHeader 0 0)))
    [ true ↦ unless_right (first_fault (layout_of header) [] rows) (layout_of header) rows (first_in_cell (layout_of header) [] rows) | false ↦ header_fault ]

-- The fault of a catalogue stands in a cell, and is not that the file is missing.
pub in_cell : (bytes : List ℕ) (f : Fault) → contents_of bytes ≡ Err f → IsCellFault f
unfolding IsRight
in_cell bytes f h = subst IsRight h (records_right (records_of bytes))
