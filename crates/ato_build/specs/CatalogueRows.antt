-- The candidates of a part among the rows that a catalogue keeps.
use Rattle.std.specs.Prelude.{ℕ, ◌+◌, if◌then◌else◌, List, [], ◌∷◌, Option, Some, None, option_map}
use Rattle.std.specs.Str.{bytes_eq}
use Rattle.ato_frac.specs.declared.fraction.Frac.{Frac}
use Rattle.ato_first_catalog.specs.Contents.{cell_under}
use Rattle.ato_first_catalog.specs.declared.header.Column.{Column}
use Rattle.ato_first_catalog.specs.declared.rows.CatalogRow.{CatalogRow}
use Rattle.ato_cert.specs.declared.problem.Row.{Row}

-- the first cell, or nothing where there is none
abbrev pub first_cell : List (Option (Frac × Frac)) → Option (Frac × Frac)
first_cell [] = None
first_cell (cell ∷ cells) = cell

-- the candidate of a kind that a row is, with its number and its range under the attribute
abbrev pub row_in : List Column → List ℕ → List ℕ → ℕ → CatalogRow → Option Row
row_in columns kind attribute number row =
    if bytes_eq row.kind kind then option_map (λ range. record { number = number; low = range.0; high = range.1 }) (cell_under columns row.cells attribute)
    else None

abbrev pub with_row : Option Row → List Row → List Row
with_row None rows = rows
with_row (Some row) rows = row ∷ rows

-- the candidates among rows, of which the first has this number
abbrev pub rows_from : List Column → List ℕ → List ℕ → ℕ → List CatalogRow → List Row
rows_from columns kind attribute number [] = []
rows_from columns kind attribute number (row ∷ rows) = with_row (row_in columns kind attribute number row) (rows_from columns kind attribute (number + 1) rows)
