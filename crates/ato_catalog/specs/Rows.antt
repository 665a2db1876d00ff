-- What a row of a catalogue says, and what is wrong with one.
use Rattle.std.specs.Prelude.{◌≡◌, ◌⊎◌, ℕ, ◌+◌, ◌<◌, ◌≤◌, ◌==◌, ◌&&◌, Bool, true, false, List, [], ◌∷◌, ◌++◌, Option, None, IsSome, length, get_or}
use Rattle.std.specs.List.{list_all}
use Rattle.std.specs.Str.{is_utf8}
use Rattle.ato_base.specs.declared.faults.FaultKind.{FaultKind}
use Rattle.ato_base.specs.declared.faults.FaultKind.TheVariants as faults
use Rattle.ato_units.specs.declared.quantities.Quantity.{Quantity}
use Rattle.ato_catalog.specs.Limits.{most_rows}
use Rattle.ato_catalog.specs.Prices.{price_of}
use Rattle.ato_catalog.specs.Values.{IsNoQuantity, IsValue}
use Rattle.ato_catalog.specs.declared.header.Layout.{Layout}
use Rattle.ato_catalog.specs.declared.header.Role.{Role}
use Rattle.ato_catalog.specs.declared.header.Role.TheVariants as under
use Rattle.ato_catalog.specs.declared.rows.CatalogRow.{CatalogRow}

-- the cell at a place, counted from 0: an empty one where the row has no such place
abbrev pub cell_at : List (List ℕ) → ℕ → List ℕ
cell_at cells place = get_or cells place []

-- the part that a row names
abbrev pub part_in : Layout → List (List ℕ) → List ℕ
part_in layout cells = cell_at cells layout.part

-- as many cells as the header has, all of them UTF-8
abbrev pub is_whole : Layout → List (List ℕ) → Bool
is_whole layout cells = (length cells == length layout.roles) && list_all is_utf8 cells

-- The cell is not what its column asks for: an empty part or kind, a price that is no price, a value that is no quantity.
abbrev pub IsBadCell : Role → List ℕ → Type 0
IsBadCell under.Part cell = length cell ≡ 0
IsBadCell under.Kind cell = length cell ≡ 0
IsBadCell under.Package cell = ⊥
IsBadCell under.Footprint cell = ⊥
IsBadCell under.Price cell = (0 < length cell) × (price_of cell ≡ None)
IsBadCell under.Remark cell = ⊥
IsBadCell under.Attribute cell = (0 < length cell) × IsNoQuantity cell

-- The cell is good, and these are its values: an attribute's cell has one, and any other none.
abbrev pub HasValues : Role → List ℕ → List (Option Quantity) → Type 0
HasValues under.Part cell values = (0 < length cell) × (values ≡ [])
HasValues under.Kind cell values = (0 < length cell) × (values ≡ [])
HasValues under.Package cell values = values ≡ []
HasValues under.Footprint cell values = values ≡ []
HasValues under.Price cell values = ((length cell ≡ 0) ⊎ IsSome (price_of cell)) × (values ≡ [])
HasValues under.Remark cell values = values ≡ []
HasValues under.Attribute cell values = (value : Option Quantity) × IsValue cell value × (values ≡ value ∷ [])

-- The cells are good, each for its column, and these are the values of the attributes in turn.
abbrev pub AreValues : List Role → List (List ℕ) → List (Option Quantity) → Type 0
AreValues [] [] values = values ≡ []
AreValues [] (cell ∷ cells) values = ⊥
AreValues (role ∷ roles) [] values = ⊥
AreValues (role ∷ roles) (cell ∷ cells) values =
    (first rest : List (Option Quantity)) × (values ≡ first ++ rest) × HasValues role cell first × AreValues roles cells rest

-- The first bad cell stands in this column, where the cells stand in columns from a number on.
abbrev pub IsBadAt : ℕ → List Role → List (List ℕ) → ℕ → Type 0
IsBadAt at [] cells column = ⊥
IsBadAt at (role ∷ roles) [] column = ⊥
IsBadAt at (role ∷ roles) (cell ∷ cells) column =
    (IsBadCell role cell × (column ≡ at)) ⊎ ((values : List (Option Quantity)) × HasValues role cell values × IsBadAt (at + 1) roles cells column)

-- What is wrong with the cells of a row, and in which column: 0 for the whole row.
pub data CellsFault (layout : Layout) (cells : List (List ℕ)) (kind : FaultKind) (column : ℕ) : Type 0 where
  bad_row : is_whole layout cells ≡ false → kind ≡ faults.BadRow → column ≡ 0 → CellsFault layout cells kind column
  bad_cell : is_whole layout cells ≡ true → IsBadAt 1 layout.roles cells column → kind ≡ faults.BadCell → CellsFault layout cells kind column

-- The row has these texts, this price and these values.
pub record IsRow (layout : Layout) (cells : List (List ℕ)) (row : CatalogRow) : Type 0 where
  pub part : row.part ≡ part_in layout cells
  pub kind : row.kind ≡ cell_at cells layout.kind
  pub «package» : row.package ≡ cell_at cells layout.package
  pub footprint : row.footprint ≡ cell_at cells layout.footprint
  pub price : row.price ≡ price_of (cell_at cells layout.price)
  pub values : AreValues layout.roles cells row.cells

-- What is wrong with a row behind so many others, first in order: one row too many, its cells, a part that an earlier row names.
pub data RowFault (layout : Layout) (before : ℕ) (taken : Bool) (cells : List (List ℕ)) (kind : FaultKind) (column : ℕ) : Type 0 where
  too_many : most_rows ≤ before → kind ≡ faults.TooManyRows → column ≡ 0 → RowFault layout before taken cells kind column
  in_cells : before < most_rows → CellsFault layout cells kind column → RowFault layout before taken cells kind column
  part_twice : before < most_rows → is_whole layout cells ≡ true → (values : List (Option Quantity)) → AreValues layout.roles cells values
      → taken ≡ true → kind ≡ faults.PartTwice → column ≡ layout.part + 1 → RowFault layout before taken cells kind column

-- Nothing is wrong with the row.
pub record IsSound (layout : Layout) (before : ℕ) (taken : Bool) (cells : List (List ℕ)) : Type 0 where
  pub few : before < most_rows
  pub whole : is_whole layout cells ≡ true
  pub values : List (Option Quantity)
  pub good : AreValues layout.roles cells values
  pub free : taken ≡ false
