-- What holds of every catalogue that is read, whatever the bytes.
use Rattle.std.specs.Prelude.{◌≡◌, ◌≢◌, ◌≤◌, ℕ, ⊤, List, [], ◌∷◌, length, map, IfSome}
use Rattle.std.specs.List.{AllByRecursion}
use Rattle.ato_frac.specs.Fractions.{value_of}
use Rattle.ato_rational.specs.Rational.{◌≤ℚ◌}
use Rattle.ato_first_catalog.specs.Limits.{most_attributes, most_rows}
use Rattle.ato_first_catalog.specs.declared.reading.Catalog.{Catalog}
use Rattle.ato_first_catalog.specs.declared.rows.CatalogRow.{CatalogRow}

-- No text stands twice.
abbrev pub AreDifferent : List (List ℕ) → Type 0
AreDifferent [] = ⊤
AreDifferent (text ∷ texts) = AllByRecursion (λ later. text ≢ later) texts × AreDifferent texts

-- No range of the row has its low end above its high end.
abbrev pub IsInOrder : CatalogRow → Type 0
IsInOrder row = AllByRecursion (λ cell. IfSome cell (λ ends. value_of ends.0 ≤ℚ value_of ends.1)) row.cells

-- The columns have different names and the rows different parts, and neither are more than the limit; each row has one cell for
-- each column, and ranges whose ends are in order.
pub record IsWellMade (catalog : Catalog) : Type 0 where
  pub few_columns : length catalog.columns ≤ most_attributes
  pub few_rows : length catalog.rows ≤ most_rows
  pub names : AreDifferent (map (λ column. column.name) catalog.columns)
  pub parts : AreDifferent (map (λ row. row.part) catalog.rows)
  pub cells : AllByRecursion (λ row. length row.cells ≡ length catalog.columns) catalog.rows
  pub ranges : AllByRecursion IsInOrder catalog.rows
