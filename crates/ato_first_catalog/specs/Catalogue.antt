-- When a catalogue is what some bytes hold.
use Rattle.std.specs.Prelude.{◌≡◌, ℕ, pos, ⊤, List, [], ◌∷◌, Option, Some, None, Result, Ok, Err}
use Rattle.ato_base.specs.declared.faults.Fault.{Fault}
use Rattle.ato_base.specs.declared.faults.Refusal.{Refusal}
use Rattle.ato_base.specs.declared.faults.Refusal.TheVariants as refusal
use Rattle.ato_frac.specs.declared.fraction.Frac.{Frac}
use Rattle.ato_frac.specs.Fractions.{value_of}
use Rattle.ato_rational.specs.Rational.{◌≈ℚ◌, whole}
use Rattle.ato_first_catalog.specs.Contents.{Contents, contents_of}
use Rattle.ato_first_catalog.specs.Rows.{PlainRow}
use Rattle.ato_first_catalog.specs.declared.reading.Catalog.{Catalog}
use Rattle.ato_first_catalog.specs.declared.rows.CatalogRow.{CatalogRow}

-- The value of a fraction is a whole number.
abbrev pub IsWhole : Frac → ℕ → Type 0
IsWhole fraction n = value_of fraction ≈ℚ whole (pos n)

-- A cell is what it is in whole numbers: nothing, or a range with these ends.
abbrev pub ShowsCell : Option (Frac × Frac) → Option (ℕ × ℕ) → Type 0
ShowsCell None None = ⊤
ShowsCell None (Some numbers) = ⊥
ShowsCell (Some ends) None = ⊥
ShowsCell (Some ends) (Some numbers) = IsWhole ends.0 numbers.0 × IsWhole ends.1 numbers.1

-- cells that are these, one by one
abbrev pub ShowsCells : List (Option (Frac × Frac)) → List (Option (ℕ × ℕ)) → Type 0
ShowsCells [] [] = ⊤
ShowsCells [] (plain ∷ plains) = ⊥
ShowsCells (cell ∷ cells) [] = ⊥
ShowsCells (cell ∷ cells) (plain ∷ plains) = ShowsCell cell plain × ShowsCells cells plains

-- A row has this part, kind and cells. It has no package, footprint or price, for which there is no column.
pub record ShowsRow (row : CatalogRow) (plain : PlainRow) : Type 0 where
  pub part : row.part ≡ plain.part
  pub kind : row.kind ≡ plain.kind
  pub no_package : row.package ≡ []
  pub no_footprint : row.footprint ≡ []
  pub no_price : row.price ≡ None
  pub cells : ShowsCells row.cells plain.cells

-- rows that are these, one by one
abbrev pub ShowsRows : List CatalogRow → List PlainRow → Type 0
ShowsRows [] [] = ⊤
ShowsRows [] (plain ∷ plains) = ⊥
ShowsRows (row ∷ rows) [] = ⊥
ShowsRows (row ∷ rows) (plain ∷ plains) = ShowsRow row plain × ShowsRows rows plains

-- A catalogue has these columns and rows.
pub record ShowsContents (catalog : Catalog) (contents : Contents) : Type 0 where
  pub columns : catalog.columns ≡ contents.columns
  pub rows : ShowsRows catalog.rows contents.rows

-- The catalogue is this one, and there is no fault.
abbrev pub IsRead : Result Contents Fault → Catalog → Type 0
IsRead (Ok contents) catalog = ShowsContents catalog contents
IsRead (Err fault) catalog = ⊥

-- The refusal is the fault that stands here, or want of memory.
abbrev pub IsRefusalOf : Result Contents Fault → Refusal → Type 0
IsRefusalOf right (refusal.Fault found) = right ≡ Err found
IsRefusalOf right refusal.NoMemory = ⊤

-- The refusal is this fault, or want of memory.
abbrev pub Explains : Option Fault → Refusal → Type 0
Explains right (refusal.Fault found) = right ≡ Some found
Explains right refusal.NoMemory = ⊤

-- The catalogue is what the bytes hold, and they have no fault.
abbrev pub IsCatalogue : List ℕ → Catalog → Type 0
IsCatalogue bytes = IsRead (contents_of bytes)

-- The refusal is the first fault in the bytes, or want of memory.
abbrev pub IsRefused : List ℕ → Refusal → Type 0
IsRefused bytes = IsRefusalOf (contents_of bytes)
