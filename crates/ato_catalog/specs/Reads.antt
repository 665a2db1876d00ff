-- What the reading of cells gives.
use Rattle.std.specs.Prelude.{◌∷◌, ℕ, List, []}
use Rattle.ato_catalog.specs.Rows.{AreValues, HasValues, IsBadAt, IsBadCell}
use Rattle.ato_catalog.specs.declared.header.Role.{Role}
use Rattle.ato_catalog.specs.declared.rows.RowValues.{RowValues}
use Rattle.ato_catalog.specs.declared.rows.RowValues.TheVariants as row
use Rattle.ato_catalog.specs.declared.values.Cell.{Cell}
use Rattle.ato_catalog.specs.declared.values.Cell.TheVariants as cells

-- The cell is bad, or good with a value or none.
abbrev pub ReadsCell : Role → List ℕ → Cell → Type 0
ReadsCell role text cells.Bad = IsBadCell role text
ReadsCell role text cells.Plain = HasValues role text []
ReadsCell role text (cells.Value value) = HasValues role text (value ∷ [])

-- The cells are good with these values, or the first bad one stands in this column.
abbrev pub ReadsCells : List Role → List (List ℕ) → RowValues → Type 0
ReadsCells roles texts (row.Good values) = AreValues roles texts values
ReadsCells roles texts (row.Bad column) = IsBadAt 1 roles texts column
