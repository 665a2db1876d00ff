-- What holds of every catalogue that is read, whatever the bytes.
use Rattle.std.specs.Prelude.{◌≡◌, ◌≢◌, ◌≤◌, ℕ, ⊤, List, [], ◌∷◌, length, map}
use Rattle.std.specs.List.{AllByRecursion}
use Rattle.ato_catalog.specs.Limits.{most_columns, most_rows}
use Rattle.ato_catalog.specs.declared.reading.Catalog.{Catalog}

-- No text stands twice.
abbrev pub AreDifferent : List (List ℕ) → Type 0
AreDifferent [] = ⊤
AreDifferent (text ∷ texts) = AllByRecursion (λ later. text ≢ later) texts × AreDifferent texts

-- Neither columns nor rows are more than the limit, the parts differ, and each row has one cell for each column.
pub record IsWellMade (catalog : Catalog) : Type 0 where
  pub few_columns : length catalog.columns ≤ most_columns
  pub few_rows : length catalog.rows ≤ most_rows
  pub parts : AreDifferent (map (λ row. row.part) catalog.rows)
  pub cells : AllByRecursion (λ row. length row.cells ≡ length catalog.columns) catalog.rows
