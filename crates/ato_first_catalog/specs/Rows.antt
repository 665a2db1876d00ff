-- What a row of a catalogue says, and what is wrong with one.
use Rattle.std.specs.Prelude.{ℕ, ◌+◌, ◌-◌, ◌==◌, ◌&&◌, ◌||◌, Bool, List, [], ◌∷◌, Option, Some, None, if◌then◌else◌, not, is_some, length, get_or, map}
use Rattle.std.specs.List.{list_all}
use Rattle.std.specs.Str.{is_utf8}
use Rattle.ato_base.specs.declared.faults.FaultKind.{FaultKind}
use Rattle.ato_base.specs.declared.faults.FaultKind.TheVariants as fault
use Rattle.ato_first_catalog.specs.Ranges.{range_of}
use Rattle.ato_first_catalog.specs.declared.header.Layout.{Layout}

-- a row in whole numbers: its part, the kind of it, and for each attribute nothing or the two ends of a range
pub record PlainRow : Type 0 where
  pub part : List ℕ
  pub kind : List ℕ
  pub cells : List (Option (ℕ × ℕ))

-- the cell of a record in a column, counted from 1
abbrev pub cell_in : List (List ℕ) → ℕ → List ℕ
cell_in cells column = get_or cells (column - 1) []

-- the part that a record names
abbrev pub part_in : Layout → List (List ℕ) → List ℕ
part_in layout cells = cell_in cells layout.part

-- the row of a record
abbrev pub row_of : Layout → List (List ℕ) → PlainRow
row_of layout cells = record {
  part = part_in layout cells;
  kind = cell_in cells layout.kind;
  cells = map (λ column. range_of (cell_in cells column.at)) layout.attributes;
}

-- An empty cell under `part` or `kind` is bad, and one under an attribute that is neither empty nor a range.
abbrev pub is_bad_cell : Layout → ℕ → List ℕ → Bool
is_bad_cell layout column cell =
    if (column == layout.part) || (column == layout.kind) then length cell == 0
    else not (length cell == 0) && not (is_some (range_of cell))

-- the first column with a bad cell, where the cells stand in this column and the next ones
unfoldable pub bad_column : Layout → ℕ → List (List ℕ) → Option ℕ
bad_column layout column [] = None
bad_column layout column (cell ∷ cells) =
    if is_bad_cell layout column cell then Some column else bad_column layout (column + 1) cells

-- as many cells as the header has, all of them UTF-8
abbrev pub is_whole : ℕ → List (List ℕ) → Bool
is_whole width cells = (length cells == width) && list_all is_utf8 cells

-- what is wrong with the cells of a record, and in which column: 0 for the whole row
unfoldable pub cells_fault : Layout → List (List ℕ) → Option (FaultKind × ℕ)
cells_fault layout cells =
    if is_whole layout.width cells then at_column (bad_column layout 1 cells) else Some (fault.BadRow, 0)
  where
    at_column : Option ℕ → Option (FaultKind × ℕ)
    at_column None = None
    at_column (Some column) = Some (fault.BadCell, column)
