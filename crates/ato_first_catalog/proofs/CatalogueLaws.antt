-- What layers above may rest on: how a catalogue that was read stands to the bytes, row by row and cell by cell.
use Rattle.std.proofs.Common.{◌≡◌, ◌+◌, ◌<◌, ◌≤◌, ◌⊎◌, inl, inr, ◌∷◌, [], ℕ, zero, suc, List, Bool, true, false, Option, Some, None, Result, Ok, Err, length, get_or, refl, sym, arith, ◌∙◌, add-one}
use Rattle.std.specs.Prelude.{MatchOption, IsSomeAnd, if◌then◌else◌, slice_get}
use Rattle.std.specs.Str.{bytes_eq}
use Rattle.ato_base.specs.declared.faults.Fault.{Fault}
use Rattle.ato_base.specs.declared.faults.Refusal.TheVariants as refusal
use Rattle.ato_frac.specs.declared.fraction.Frac.{Frac}
use Rattle.ato_frac.specs.Fractions.{value_of}
use Rattle.ato_frac.specs.OneNumber.{fraction_same}
use Rattle.ato_rational.specs.Rational.{◌≈ℚ◌, ℚ}
use Rattle.ato_rational.proofs.Order.{≈ℚ_sym, ≈ℚ_trans}
use Rattle.ato_first_catalog.specs.Catalogue.{IsCatalogue, IsRead, IsRefused, ShowsCell, ShowsCells, ShowsContents, ShowsRow, ShowsRows}
use Rattle.ato_first_catalog.specs.Contents.{Contents, catalogue_row, cell_under, contents_of, numbered, range_under}
use Rattle.ato_first_catalog.specs.Rows.{PlainRow}
use Rattle.ato_first_catalog.specs.declared.header.Column.{Column}
use Rattle.ato_first_catalog.specs.declared.reading.Catalog.{Catalog}
use Rattle.ato_first_catalog.specs.declared.rows.CatalogRow.{CatalogRow}

-- Bytes hold one catalogue in whole numbers at most,
pub one_contents : (bytes : List ℕ) (a b : Contents) → contents_of bytes ≡ Ok a → contents_of bytes ≡ Ok b → a ≡ b
one_contents bytes a b e f = same (sym e ∙ f)
  where
    same : ◌≡◌ {A = Result Contents Fault} (Ok a) (Ok b) → a ≡ b
    same g = cc g

-- they have one first fault at most,
pub one_fault : (bytes : List ℕ) (f g : Fault) → contents_of bytes ≡ Err f → contents_of bytes ≡ Err g → f ≡ g
one_fault bytes f g d e = same (sym d ∙ e)
  where
    same : ◌≡◌ {A = Result Contents Fault} (Err f) (Err g) → f ≡ g
    same h = cc h

-- never both,
pub never_both : (bytes : List ℕ) (contents : Contents) (f : Fault) → contents_of bytes ≡ Ok contents → contents_of bytes ≡ Err f → ⊥
never_both bytes contents f e d = apart (sym e ∙ d)
  where
    apart : ◌≡◌ {A = Result Contents Fault} (Ok contents) (Err f) → ⊥
    apart h = cc h

-- and always one of the two.
pub one_of_both : (bytes : List ℕ) → ((contents : Contents) × (contents_of bytes ≡ Ok contents)) ⊎ ((f : Fault) × (contents_of bytes ≡ Err f))
one_of_both bytes = by (contents_of bytes) refl
  where
    by : (r : Result Contents Fault) → contents_of bytes ≡ r → ((contents : Contents) × (contents_of bytes ≡ Ok contents)) ⊎ ((f : Fault) × (contents_of bytes ≡ Err f))
    by (Ok contents) e = inl (contents, e)
    by (Err f) e = inr (f, e)

-- A catalogue that was read is what the bytes hold in whole numbers.
pub contents_read : (bytes : List ℕ) (catalog : Catalog) → IsCatalogue bytes catalog → (contents : Contents) × (contents_of bytes ≡ Ok contents) × ShowsContents catalog contents
contents_read bytes catalog h = by (contents_of bytes) refl h
  where
    by : (r : Result Contents Fault) → contents_of bytes ≡ r → IsRead r catalog → (contents : Contents) × (contents_of bytes ≡ Ok contents) × ShowsContents catalog contents
    by (Ok contents) e k = (contents, e, k)
    by (Err f) e k = absurd k

-- Where a catalogue stands in the bytes, no fault does.
pub never_refused : (bytes : List ℕ) (catalog : Catalog) (f : Fault) → IsCatalogue bytes catalog → IsRefused bytes (refusal.Fault f) → ⊥
never_refused bytes catalog f h e =
    let (contents, is, shows) = contents_read bytes catalog h in
    never_both bytes contents f is e

-- The rows, by their places in the list.
rows_there : (rows : List CatalogRow) (plains : List PlainRow) (i : ℕ) → ShowsRows rows plains
    → MatchOption (slice_get plains i) (slice_get rows i ≡ None) (λ plain. IsSomeAnd (slice_get rows i) (λ row. ShowsRow row plain))
rows_there [] [] i h = refl
rows_there [] (plain ∷ plains) i h = absurd h
rows_there (row ∷ rows) [] i h = absurd h
rows_there (row ∷ rows) (plain ∷ plains) zero h = h.0
rows_there (row ∷ rows) (plain ∷ plains) (suc i) h = rows_there rows plains i h.1

numbered_there : (rows : List CatalogRow) (plains : List PlainRow) (number : ℕ) → ShowsRows rows plains
    → MatchOption (numbered plains number) (numbered rows number ≡ None) (λ plain. IsSomeAnd (numbered rows number) (λ row. ShowsRow row plain))
numbered_there rows plains zero h = refl
numbered_there rows plains (suc before) h = rows_there rows plains before h

-- A row with a number is in the catalogue exactly where it is in the bytes, with that part, that kind and those cells.
pub row_there : (bytes : List ℕ) (catalog : Catalog) (number : ℕ) → IsCatalogue bytes catalog
    → MatchOption (catalogue_row bytes number) (numbered catalog.rows number ≡ None) (λ plain. IsSomeAnd (numbered catalog.rows number) (λ row. ShowsRow row plain))
row_there bytes catalog number h =
    let (contents, is, shows) = contents_read bytes catalog h in
    rw is (numbered_there catalog.rows contents.rows number shows.rows)

-- the row at a place of the list, counted from 0
get-at : (rows : List CatalogRow) (plains : List PlainRow) (i : ℕ) (row : CatalogRow) → ShowsRows rows plains → i < length rows → row ≡ get_or rows i row
    → (plain : PlainRow) × (slice_get plains i ≡ Some plain) × ShowsRow row plain
get-at [] [] i row h inside here = absurd (omega arith)
get-at [] (plain ∷ plains) i row h inside here = absurd h
get-at (r ∷ rows) [] i row h inside here = absurd h
get-at (r ∷ rows) (plain ∷ plains) zero row h inside here = (plain, refl, rw here h.0)
get-at (r ∷ rows) (plain ∷ plains) (suc i) row h inside here = get-at rows plains i row h.1 (omega arith) here

-- The row at a place of the catalogue's list, counted from 0, is the row of the bytes with the next number.
pub row_at_place : (bytes : List ℕ) (catalog : Catalog) (i : ℕ) (row : CatalogRow) → IsCatalogue bytes catalog → i < length catalog.rows → row ≡ get_or catalog.rows i row
    → (plain : PlainRow) × (catalogue_row bytes (i + 1) ≡ Some plain) × ShowsRow row plain
row_at_place bytes catalog i row h inside here =
    let (contents, is, shows) = contents_read bytes catalog h in
    rw (is, add-one) (get-at catalog.rows contents.rows i row shows.rows inside here)

past-end : (rows : List CatalogRow) (plains : List PlainRow) (i : ℕ) → ShowsRows rows plains → length rows ≤ i → slice_get plains i ≡ None
past-end [] [] i h past = refl
past-end [] (plain ∷ plains) i h past = absurd h
past-end (row ∷ rows) [] i h past = absurd h
past-end (row ∷ rows) (plain ∷ plains) zero h past = absurd (omega arith)
past-end (row ∷ rows) (plain ∷ plains) (suc i) h past = past-end rows plains i h.1 (omega arith)

-- The bytes have no row behind the last of the catalogue's list.
pub no_row_past : (bytes : List ℕ) (catalog : Catalog) (i : ℕ) → IsCatalogue bytes catalog → length catalog.rows ≤ i → catalogue_row bytes (i + 1) ≡ None
no_row_past bytes catalog i h past =
    let (contents, is, shows) = contents_read bytes catalog h in
    rw (is, add-one) (past-end catalog.rows contents.rows i shows.rows past)

-- A cell at a place is there exactly where that of the row in whole numbers is, and is that one.
pub cell_there : (cells : List (Option (Frac × Frac))) (plains : List (Option (ℕ × ℕ))) (i : ℕ) → ShowsCells cells plains
    → MatchOption (slice_get plains i) (slice_get cells i ≡ None) (λ plain. IsSomeAnd (slice_get cells i) (λ cell. ShowsCell cell plain))
cell_there [] [] i h = refl
cell_there [] (plain ∷ plains) i h = absurd h
cell_there (cell ∷ cells) [] i h = absurd h
cell_there (cell ∷ cells) (plain ∷ plains) zero h = h.0
cell_there (cell ∷ cells) (plain ∷ plains) (suc i) h = cell_there cells plains i h.1

pub under : (columns : List Column) (cells : List (Option (Frac × Frac))) (plains : List (Option (ℕ × ℕ))) (name : List ℕ) → ShowsCells cells plains
    → ShowsCell (cell_under columns cells name) (cell_under columns plains name)
under [] cells plains name h = tt
under (column ∷ columns) [] [] name h = tt
under (column ∷ columns) [] (plain ∷ plains) name h = absurd h
under (column ∷ columns) (cell ∷ cells) [] name h = absurd h
under (column ∷ columns) (cell ∷ cells) (plain ∷ plains) name h = by (bytes_eq column.name name) (under columns cells plains name h.1)
  where
    by : (b : Bool) → ShowsCell (cell_under columns cells name) (cell_under columns plains name)
        → ShowsCell (if b then cell else cell_under columns cells name) (if b then plain else cell_under columns plains name)
    by true more = h.0
    by false more = more

under-same : (columns others : List Column) (cells : List (Option (Frac × Frac))) (plains : List (Option (ℕ × ℕ))) (name : List ℕ) → columns ≡ others → ShowsCells cells plains
    → ShowsCell (cell_under columns cells name) (cell_under others plains name)
under-same columns others cells plains name same h = rw same (under others cells plains name h)

-- The cell under a name is nothing, or a range with those ends, exactly as the bytes say.
pub range_there : (bytes : List ℕ) (catalog : Catalog) (row : CatalogRow) (plain : PlainRow) (name : List ℕ) → IsCatalogue bytes catalog → ShowsRow row plain
    → ShowsCell (cell_under catalog.columns row.cells name) (range_under bytes plain name)
range_there bytes catalog row plain name h shown =
    let (contents, is, shows) = contents_read bytes catalog h in
    rw is (under-same catalog.columns contents.columns row.cells plain.cells name shows.columns shown.cells)

-- Fractions of one whole number are one fraction, so the cells, the rows and the catalogue of some bytes are determined.
same_fraction : (f g : Frac) (x : ℚ) → value_of f ≈ℚ x → value_of g ≈ℚ x → f ≡ g
same_fraction f g x d e = fraction_same f g (≈ℚ_trans d (≈ℚ_sym e))

same_cell : (a b : Option (Frac × Frac)) (plain : Option (ℕ × ℕ)) → ShowsCell a plain → ShowsCell b plain → a ≡ b
same_cell None None plain h k = refl
same_cell None (Some ends) None h k = absurd k
same_cell None (Some ends) (Some numbers) h k = absurd h
same_cell (Some ends) None None h k = absurd h
same_cell (Some ends) None (Some numbers) h k = absurd k
same_cell (Some a) (Some b) None h k = absurd h
same_cell (Some a) (Some b) (Some numbers) h k =
    let low : a.0 ≡ b.0 = same_fraction a.0 b.0 _ h.0 k.0 in
    let high : a.1 ≡ b.1 = same_fraction a.1 b.1 _ h.1 k.1 in
    λ i. Some (low i, high i)

same_cells : (a b : List (Option (Frac × Frac))) (plains : List (Option (ℕ × ℕ))) → ShowsCells a plains → ShowsCells b plains → a ≡ b
same_cells [] [] [] h k = refl
same_cells [] [] (plain ∷ plains) h k = absurd h
same_cells [] (y ∷ b) [] h k = absurd k
same_cells [] (y ∷ b) (plain ∷ plains) h k = absurd h
same_cells (x ∷ a) [] [] h k = absurd h
same_cells (x ∷ a) [] (plain ∷ plains) h k = absurd k
same_cells (x ∷ a) (y ∷ b) [] h k = absurd h
same_cells (x ∷ a) (y ∷ b) (plain ∷ plains) h k =
    let first = same_cell x y plain h.0 k.0 in
    let rest = same_cells a b plains h.1 k.1 in
    λ i. first i ∷ rest i

same_row : (a b : CatalogRow) (plain : PlainRow) → ShowsRow a plain → ShowsRow b plain → a ≡ b
same_row a b plain h k =
    let part : a.part ≡ b.part = h.part ∙ sym k.part in
    let kind : a.kind ≡ b.kind = h.kind ∙ sym k.kind in
    let package' : a.package ≡ b.package = h.no_package ∙ sym k.no_package in
    let footprint : a.footprint ≡ b.footprint = h.no_footprint ∙ sym k.no_footprint in
    let price : a.price ≡ b.price = h.no_price ∙ sym k.no_price in
    let cells : a.cells ≡ b.cells = same_cells a.cells b.cells plain.cells h.cells k.cells in
    λ i. record { part = part i; kind = kind i; «package» = package' i; footprint = footprint i; price = price i; cells = cells i }

same_rows : (a b : List CatalogRow) (plains : List PlainRow) → ShowsRows a plains → ShowsRows b plains → a ≡ b
same_rows [] [] [] h k = refl
same_rows [] [] (plain ∷ plains) h k = absurd h
same_rows [] (y ∷ b) [] h k = absurd k
same_rows [] (y ∷ b) (plain ∷ plains) h k = absurd h
same_rows (x ∷ a) [] [] h k = absurd h
same_rows (x ∷ a) [] (plain ∷ plains) h k = absurd k
same_rows (x ∷ a) (y ∷ b) [] h k = absurd h
same_rows (x ∷ a) (y ∷ b) (plain ∷ plains) h k =
    let first = same_row x y plain h.0 k.0 in
    let rest = same_rows a b plains h.1 k.1 in
    λ i. first i ∷ rest i

-- Bytes hold one catalogue at most.
pub one_catalogue : (bytes : List ℕ) (a b : Catalog) → IsCatalogue bytes a → IsCatalogue bytes b → a ≡ b
one_catalogue bytes a b h k = by (contents_of bytes) h k
  where
    by : (r : Result Contents Fault) → IsRead r a → IsRead r b → a ≡ b
    by (Ok contents) d e =
        let columns : a.columns ≡ b.columns = d.columns ∙ sym e.columns in
        let rows = same_rows a.rows b.rows contents.rows d.rows e.rows in
        λ i. record { columns = columns i; rows = rows i }
    by (Err f) d e = absurd d
