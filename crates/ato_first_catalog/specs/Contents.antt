-- What the bytes of a catalogue hold, in whole numbers, or the first fault in them.
use Rattle.std.specs.Prelude.{ℕ, zero, suc, ◌+◌, ◌++◌, Bool, List, [], ◌∷◌, Option, Some, None, Result, Ok, Err, if◌then◌else◌, nat_le, length, map, option_map, option_and_then, slice_get}
use Rattle.std.specs.List.{list_any}
use Rattle.std.specs.Option.{option_or}
use Rattle.std.specs.Result.{result_ok}
use Rattle.std.specs.Str.{bytes_eq}
use Rattle.ato_base.specs.declared.faults.Fault.{Fault}
use Rattle.ato_base.specs.declared.faults.FaultKind.{FaultKind}
use Rattle.ato_base.specs.declared.faults.FaultKind.TheVariants as fault
use Rattle.ato_base.specs.declared.places.Place.TheVariants as place
use Rattle.ato_first_catalog.specs.Header.{is_header, layout_of}
use Rattle.ato_first_catalog.specs.Limits.{most_rows}
use Rattle.ato_first_catalog.specs.Records.{records_of}
use Rattle.ato_first_catalog.specs.Rows.{PlainRow, cells_fault, part_in, row_of}
use Rattle.ato_first_catalog.specs.declared.header.Column.{Column}
use Rattle.ato_first_catalog.specs.declared.header.Layout.{Layout}

-- a catalogue in whole numbers: the attributes with their columns, and the rows
pub record Contents : Type 0 where
  pub columns : List Column
  pub rows : List PlainRow

-- a fault in a cell: the header is row 0, columns count from 1, and column 0 is the whole row
abbrev pub fault_at : FaultKind → ℕ → ℕ → Fault
fault_at kind row column = record { kind = kind; at = place.Cell row column; other = None; path = [] }

-- The catalogue has no header: this stands at row 0, column 0.
abbrev pub no_header : Fault
no_header = fault_at fault.NoHeader 0 0

-- one of the parts is this one
abbrev pub is_taken : List (List ℕ) → List ℕ → Bool
is_taken parts part = list_any (λ held. bytes_eq held part) parts

-- what is wrong with a row after so many others, first in order: one row too many, its cells, a part that is taken
unfoldable pub row_fault : Layout → ℕ → Bool → List (List ℕ) → Option (FaultKind × ℕ)
row_fault layout before taken cells =
    if nat_le most_rows before then Some (fault.TooManyRows, 0)
    else option_or (cells_fault layout cells) (if taken then Some (fault.PartTwice, layout.part) else None)

-- the first fault in the rows of these records, which come after rows with these parts
unfoldable pub first_fault : Layout → List (List ℕ) → List (List (List ℕ)) → Option Fault
first_fault layout parts [] = None
first_fault layout parts (cells ∷ rows) =
    option_or
    (option_map (λ found. fault_at found.0 (length parts + 1) found.1)
    (row_fault layout (length parts) (is_taken parts (part_in layout cells)) cells))
    (first_fault layout (parts ++ part_in layout cells ∷ []) rows)

-- the rows of these records, where none of them has a fault
abbrev pub unless_fault : Option Fault → Layout → List (List (List ℕ)) → Result Contents Fault
unless_fault (Some found) layout rows = Err found
unless_fault None layout rows = Ok (record { columns = layout.attributes; rows = map (row_of layout) rows })

-- the catalogue of some records, of which the first is its header, or the first fault in them
unfoldable pub contents_in : List (List (List ℕ)) → Result Contents Fault
contents_in [] = Err no_header
contents_in (header ∷ rows) =
    if is_header header then unless_fault (first_fault (layout_of header) [] rows) (layout_of header) rows
    else Err no_header

-- the catalogue that some bytes hold, or the first fault in them
abbrev pub contents_of : List ℕ → Result Contents Fault
contents_of bytes = contents_in (records_of bytes)

-- the element of a list with this number, counted from 1
abbrev pub numbered : {X : Type 0} → List X → ℕ → Option X
numbered xs zero = None
numbered xs (suc before) = slice_get xs before

-- the cell under the attribute of this name: nothing where there is no such column
abbrev pub cell_under : {X : Type 0} → List Column → List (Option X) → List ℕ → Option X
cell_under [] cells name = None
cell_under (column ∷ columns) [] name = None
cell_under (column ∷ columns) (cell ∷ cells) name = if bytes_eq column.name name then cell else cell_under columns cells name

-- the row with this number, counted from 1, of the catalogue that some bytes hold
abbrev pub catalogue_row : List ℕ → ℕ → Option PlainRow
catalogue_row bytes number = option_and_then (λ contents. numbered contents.rows number) (result_ok (contents_of bytes))

-- the range, as its two ends, that a row has under the attribute of this name, by the columns of the catalogue
abbrev pub range_under : List ℕ → PlainRow → List ℕ → Option (ℕ × ℕ)
range_under bytes row name = option_and_then (λ contents. cell_under contents.columns row.cells name) (result_ok (contents_of bytes))
