-- The candidates that a catalogue keeps are those that its bytes hold.
use Rattle.std.proofs.Common.{◌≡◌, ℕ, ◌<◌, ◌≤◌, ◌+◌, suc, Bool, true, false, List, [], ◌∷◌, length, drop, get_or, ap, sym, ◌∙◌, refl, arith, subst, if◌then◌else◌, drop-cons, add-one}
use Rattle.std.specs.Prelude.{Option, Some, None, IfSome, option_map}
use Rattle.std.specs.List.{All, AllByRecursion, AllPairs, AllZip}
use Rattle.std.proofs.lemmas.List.Elements.{All-cons, All-nil}
use Rattle.std.proofs.lemmas.List.Kept.{AllPairs-cons}
use Rattle.ato_frac.specs.Fractions.{value_of}
use Rattle.ato_rational.specs.Rational.{◌≤ℚ◌}
use Rattle.ato_first_catalog.specs.Catalogue.{IsWhole, ShowsCell, ShowsRow, ShowsRows, ShowsContents}
use Rattle.ato_first_catalog.specs.Contents.{Contents, cell_under}
use Rattle.ato_first_catalog.specs.Rows.{PlainRow}
use Rattle.ato_first_catalog.specs.WellMade as catalogues
use Rattle.ato_first_catalog.specs.declared.rows.CatalogRow.{CatalogRow}
use Rattle.ato_first_catalog.specs.declared.reading.Catalog.{Catalog}
use Rattle.ato_first_catalog.proofs.CatalogueLaws.{under}
use Rattle.ato_first_catalog.proofs.WholeLaws.{at_most_from_whole}
use Rattle.ato_cert.specs.Problems.{IsWellMadeSlot}
use Rattle.ato_cert.specs.declared.problem.Row.{Row}
use Rattle.ato_first.specs.FirstParts.{Part, Candidate, candidate_in, with_candidate, candidates_from, candidates}
use Rattle.ato_build.specs.Problems.{IsRowOf, IsSlotOf}
use Rattle.std.specs.Str.{bytes_eq}
use Rattle.std.proofs.lemmas.List.{drop_all, drop-drop}
use Rattle.ato_frac.specs.declared.fraction.Frac.{Frac}
use Rattle.ato_first_catalog.specs.declared.header.Column.{Column}
use Rattle.ato_build.specs.CatalogueRows.{first_cell, row_in, with_row, rows_from}

-- ---- the cell under a name

rest_at : {A : Type 0} (xs : List A) (i : ℕ) (x : A) → i < length xs → x ≡ get_or xs i x → drop i xs ≡ x ∷ drop (i + 1) xs
rest_at xs i x h is = drop-cons xs i x h ∙ ap (λ y. y ∷ drop (suc i) xs) (sym is) ∙ ap (λ n. x ∷ drop n xs) (sym (add-one i))

rest_under : (column : Column) (columns : List Column) (cells : List (Option (Frac × Frac))) (name : List ℕ) (same : Bool) → bytes_eq column.name name ≡ same
    → cell_under (column ∷ columns) cells name ≡ (if same then first_cell cells else cell_under columns (drop 1 cells) name)
rest_under column columns [] name true h = refl
rest_under column [] [] name false h = refl
rest_under column (next ∷ columns) [] name false h = refl
rest_under column columns (cell ∷ cells) name same h = ap (λ b. if b then cell else cell_under columns cells name) h

drop_more : {A : Type 0} (xs : List A) (i : ℕ) → drop 1 (drop i xs) ≡ drop (i + 1) xs
drop_more xs i = drop-drop 1 i xs

pub under_here : (columns : List Column) (cells : List (Option (Frac × Frac))) (name : List ℕ) (i : ℕ) (column : Column) → i < length columns → column ≡ get_or columns i column → bytes_eq column.name name ≡ true
    → cell_under (drop i columns) (drop i cells) name ≡ first_cell (drop i cells)
under_here columns cells name i column h is same =
    ap (λ cs. cell_under cs (drop i cells) name) (rest_at columns i column h is) ∙ rest_under column (drop (i + 1) columns) (drop i cells) name true same

pub under_more : (columns : List Column) (cells : List (Option (Frac × Frac))) (name : List ℕ) (i : ℕ) (column : Column) → i < length columns → column ≡ get_or columns i column → bytes_eq column.name name ≡ false
    → cell_under (drop (i + 1) columns) (drop (i + 1) cells) name ≡ cell_under (drop i columns) (drop i cells) name
under_more columns cells name i column h is other =
    sym (ap (λ cs. cell_under cs (drop i cells) name) (rest_at columns i column h is) ∙ rest_under column (drop (i + 1) columns) (drop i cells) name false other
    ∙ ap (λ cs. cell_under (drop (i + 1) columns) cs name) (drop_more cells i))

pub under_end : (columns : List Column) (cells : List (Option (Frac × Frac))) (name : List ℕ) (i : ℕ) → length columns ≤ i → cell_under (drop i columns) (drop i cells) name ≡ None
under_end columns cells name i h = ap (λ cs. cell_under cs (drop i cells) name) (drop_all i columns h)

-- ---- candidates, one by one

-- a row and a candidate that are there together
Together : Option Row → Option Candidate → Type 0
Together None None = Unit {0}
Together None (Some candidate) = ⊥
Together (Some row) None = ⊥
Together (Some row) (Some candidate) = IsRowOf row candidate

row_made : (number : ℕ) (ends : Option (Frac × Frac)) (numbers : Option (ℕ × ℕ)) → ShowsCell ends numbers
    → Together (option_map (λ range. record { number = number; low = range.0; high = range.1 }) ends) (option_map (λ range. record { number = number; low = range.0; high = range.1 }) numbers)
unfolding Together
row_made number None None h = tt
row_made number None (Some numbers) h = absurd h
row_made number (Some ends) None h = absurd h
row_made number (Some ends) (Some numbers) h = record { number = refl; low = h.0; high = h.1 }

row_together : (columns : List Column) (part : Part) (number : ℕ) (row : CatalogRow) (plain : PlainRow) → ShowsRow row plain
    → Together (row_in columns part.kind part.attribute number row) (candidate_in columns part number plain)
unfolding Together
row_together columns part number row plain h =
    subst (λ kind. Together (row_in columns part.kind part.attribute number row) (if bytes_eq kind part.kind then option_map (λ range. record { number = number; low = range.0; high = range.1 }) (cell_under columns plain.cells part.attribute) else None)) h.kind
    (elim (bytes_eq row.kind part.kind) as (λ b. Together (if b then option_map (λ range. record { number = number; low = range.0; high = range.1 }) (cell_under columns row.cells part.attribute) else None)
    (if b then option_map (λ range. record { number = number; low = range.0; high = range.1 }) (cell_under columns plain.cells part.attribute) else None))
    [ true ↦ row_made number (cell_under columns row.cells part.attribute) (cell_under columns plain.cells part.attribute) (under columns row.cells plain.cells part.attribute h.cells) | false ↦ tt ])

zip_with : (row : Option Row) (candidate : Option Candidate) (rows : List Row) (candidates : List Candidate) → Together row candidate → AllZip IsRowOf rows candidates
    → AllZip IsRowOf (with_row row rows) (with_candidate candidate candidates)
unfolding Together
zip_with None None rows candidates h k = k
zip_with None (Some candidate) rows candidates h k = absurd h
zip_with (Some row) None rows candidates h k = absurd h
zip_with (Some row) (Some candidate) rows candidates h k = (h, k)

rows_zip : (columns : List Column) (part : Part) (number : ℕ) (rows : List CatalogRow) (plains : List PlainRow) → ShowsRows rows plains
    → AllZip IsRowOf (rows_from columns part.kind part.attribute number rows) (candidates_from columns part number plains)
rows_zip columns part number [] [] h = tt
rows_zip columns part number [] (plain ∷ plains) h = absurd h
rows_zip columns part number (row ∷ rows) [] h = absurd h
rows_zip columns part number (row ∷ rows) (plain ∷ plains) h =
    zip_with (row_in columns part.kind part.attribute number row) (candidate_in columns part number plain) _ _ (row_together columns part number row plain h.0) (rows_zip columns part (number + 1) rows plains h.1)

-- The rows that are kept are the candidates.
pub slot_shows : (part : Part) (catalog : Catalog) (rows : List Row) (low high : Frac) → rows ≡ rows_from catalog.columns part.kind part.attribute 1 catalog.rows → IsWhole low part.low → IsWhole high part.high
    → (contents : Contents) → ShowsContents catalog contents → IsSlotOf contents part (record { rows = rows; low = low; high = high })
slot_shows part catalog rows low high is low_is high_is contents shows = record {
  rows =
      subst (λ rs. AllZip IsRowOf rs (candidates contents part)) (sym is)
      (subst (λ columns. AllZip IsRowOf (rows_from catalog.columns part.kind part.attribute 1 catalog.rows) (candidates_from columns part 1 contents.rows)) shows.columns
      (rows_zip catalog.columns part 1 catalog.rows contents.rows shows.rows));
  low = low_is;
  high = high_is;
}

-- ---- the slot is well made

fewer : (row : Option Row) (rows : List Row) → length (with_row row rows) ≤ length rows + 1
fewer None rows = omega arith
fewer (Some row) rows = omega arith

pub few_rows : (columns : List Column) (kind attribute : List ℕ) (number : ℕ) (rows : List CatalogRow) → length (rows_from columns kind attribute number rows) ≤ length rows
few_rows columns kind attribute number [] = omega arith
few_rows columns kind attribute number (row ∷ rows) =
    omega (arith, fewer (row_in columns kind attribute number row) (rows_from columns kind attribute (number + 1) rows), few_rows columns kind attribute (number + 1) rows)

-- a row that is in has its number and a range in order
record IsFrom (number : ℕ) (row : Row) : Type 0 where
  pub numbered : row.number ≡ number
  pub in_order : value_of row.low ≤ℚ value_of row.high

cell_order : (columns : List Column) (cells : List (Option (Frac × Frac))) (name : List ℕ) → AllByRecursion (λ cell. IfSome cell (λ ends. value_of ends.0 ≤ℚ value_of ends.1)) cells
    → IfSome (cell_under columns cells name) (λ ends. value_of ends.0 ≤ℚ value_of ends.1)
cell_order [] cells name h = tt
cell_order (column ∷ columns) [] name h = tt
cell_order (column ∷ columns) (cell ∷ cells) name h =
    elim (bytes_eq column.name name) as (λ b. IfSome (if b then cell else cell_under columns cells name) (λ ends. value_of ends.0 ≤ℚ value_of ends.1))
    [ true ↦ h.0 | false ↦ cell_order columns cells name h.1 ]

made_from : (number : ℕ) (ends : Option (Frac × Frac)) → IfSome ends (λ e. value_of e.0 ≤ℚ value_of e.1) → IfSome (option_map (λ range. record { number = number; low = range.0; high = range.1 }) ends) (IsFrom number)
made_from number None h = tt
made_from number (Some ends) h = record { numbered = refl; in_order = h }

row_from : (columns : List Column) (kind attribute : List ℕ) (number : ℕ) (row : CatalogRow) → catalogues.IsInOrder row → IfSome (row_in columns kind attribute number row) (IsFrom number)
row_from columns kind attribute number row h =
    elim (bytes_eq row.kind kind) as (λ b. IfSome (if b then option_map (λ range. record { number = number; low = range.0; high = range.1 }) (cell_under columns row.cells attribute) else None) (IsFrom number))
    [ true ↦ made_from number (cell_under columns row.cells attribute) (cell_order columns row.cells attribute h) | false ↦ tt ]

-- Rows from a number on: they are numbered from it on, rising, and their ranges are in order.
record AreFrom (number : ℕ) (rows : List Row) : Type 0 where
  pub least : All (λ row. number ≤ row.number) rows
  pub rising : AllPairs (λ a b. a.number < b.number) rows
  pub ranges : All (λ row. value_of row.low ≤ℚ value_of row.high) rows

none_from : (number : ℕ) → AreFrom number []
none_from number = record { least = All-nil {X = Row} (λ row. number ≤ row.number); rising = λ i j d h k. absurd (omega arith); ranges = All-nil {X = Row} (λ row. value_of row.low ≤ℚ value_of row.high) }

more_from : (number : ℕ) (row : Option Row) (rows : List Row) → IfSome row (IsFrom number) → AreFrom (number + 1) rows → AreFrom number (with_row row rows)
more_from number None rows h k = record { least = λ i d l. omega (arith, k.least i d l); rising = k.rising; ranges = k.ranges }
more_from number (Some row) rows h k = record {
  least = All-cons (λ r. number ≤ r.number) row rows (omega (arith, h.numbered)) (λ i d l. omega (arith, k.least i d l));
  rising = AllPairs-cons (λ a b. a.number < b.number) row rows (λ i d l. omega (arith, k.least i d l, h.numbered)) k.rising;
  ranges = All-cons (λ r. value_of r.low ≤ℚ value_of r.high) row rows h.in_order k.ranges;
}

rows_are_from : (columns : List Column) (kind attribute : List ℕ) (number : ℕ) (rows : List CatalogRow) → AllByRecursion catalogues.IsInOrder rows → AreFrom number (rows_from columns kind attribute number rows)
rows_are_from columns kind attribute number [] h = none_from number
rows_are_from columns kind attribute number (row ∷ rows) h =
    more_from number (row_in columns kind attribute number row) _ (row_from columns kind attribute number row h.0) (rows_are_from columns kind attribute (number + 1) rows h.1)

-- The slot is well made.
pub slot_well_made : (catalog : Catalog) (kind attribute : List ℕ) (rows : List Row) (low high : Frac) (least greatest : ℕ) → catalogues.IsWellMade catalog → rows ≡ rows_from catalog.columns kind attribute 1 catalog.rows
    → IsWhole low least → IsWhole high greatest → least ≤ greatest → IsWellMadeSlot (record { rows = rows; low = low; high = high })
slot_well_made catalog kind attribute rows low high least greatest made is low_is high_is order =
    let from : AreFrom 1 rows = subst (AreFrom 1) (sym is) (rows_are_from catalog.columns kind attribute 1 catalog.rows made.ranges) in
    record { rising = from.rising; ranges = from.ranges; target = at_most_from_whole (value_of low) (value_of high) least greatest low_is high_is order }
