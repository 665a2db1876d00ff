-- A catalogue that is read is well made.
use Rattle.std.proofs.Common.{◌≡◌, ◌≢◌, ◌≤◌, ◌+◌, ◌++◌, ◌∷◌, [], ℕ, suc, List, Bool, true, false, Option, Some, None, length, map, refl, ap, arith, ◌∙◌}
use Rattle.std.specs.Prelude.{◌||◌, Result, Ok, Err, IfOk, if◌then◌else◌, nat_le, option_map}
use Rattle.std.specs.List.{AllByRecursion}
use Rattle.std.specs.Str.{bytes_eq}
use Rattle.std.proofs.lemmas.List.{length-append}
use Rattle.std.proofs.lemmas.Bool.Decides.{nat_tests}
use Rattle.std.proofs.lemmas.List.Folds.{list_any-append}
use Rattle.std.proofs.lemmas.Slice.Eq.{bytes_eq-Decides}
use Rattle.ato_base.specs.declared.faults.Refusal.{Refusal}
use Rattle.ato_base.specs.declared.faults.FaultKind.TheVariants as faults
use Rattle.ato_units.specs.declared.quantities.Quantity.{Quantity}
use Rattle.ato_catalog.specs.Catalogue.{AreRows, IsReadIn, is_taken}
use Rattle.ato_catalog.specs.Header.{columns_from, is_header, layout_of, put_column, role_of, twice_after}
use Rattle.ato_catalog.specs.HeaderFaults.{fault_at, header_fault}
use Rattle.ato_catalog.specs.Limits.{most_columns, most_rows}
use Rattle.ato_catalog.specs.Rows.{AreValues, HasValues, part_in}
use Rattle.ato_catalog.specs.WellMade.{AreDifferent, IsWellMade}
use Rattle.ato_catalog.specs.declared.header.Column.{Column}
use Rattle.ato_catalog.specs.declared.header.Layout.{Layout}
use Rattle.ato_catalog.specs.declared.header.Role.{Role}
use Rattle.ato_catalog.specs.declared.header.Role.TheVariants as under
use Rattle.ato_catalog.specs.declared.reading.Catalog.{Catalog}
use Rattle.ato_catalog.specs.declared.rows.CatalogRow.{CatalogRow}
use Rattle.ato_catalog.proofs.CellLaws.{and-true}

at-most : (m n : ℕ) → nat_le m n ≡ true → m ≤ n
at-most m n test = grind (arith, nat_tests)

header-few : (headings : List (List ℕ)) → is_header headings ≡ true → length headings ≤ most_columns
unfolding is_header
header-few headings e =
    let kind = and-true _ _ e in
    let part = and-true _ _ kind.0 in
    let some = and-true _ _ part.0 in
    let text = and-true _ _ some.0 in
    at-most (length headings) most_columns text.0

-- a header without a fault has no more columns than the limit
pub no_fault-few : (headings : List (List ℕ)) → header_fault headings ≡ None → length headings ≤ most_columns
unfolding header_fault
no_fault-few headings e = by (is_header headings) refl e
  where
    by : (b : Bool) → is_header headings ≡ b
        → (if b then option_map (λ column. fault_at faults.ColumnTwice 0 column) (twice_after [] headings) else Some (fault_at faults.NoHeader 0 0)) ≡ None
        → length headings ≤ most_columns
    by true named h = header-few headings named
    by false named h = cc h

put-length : (role : Role) (at : ℕ) (name : List ℕ) (columns : List Column) → length (put_column role at name columns) ≤ suc (length columns)
put-length under.Part at name columns = omega arith
put-length under.Kind at name columns = omega arith
put-length under.Package at name columns = omega arith
put-length under.Footprint at name columns = omega arith
put-length under.Price at name columns = omega arith
put-length under.Remark at name columns = omega arith
put-length under.Attribute at name columns = omega arith

columns-few : (at : ℕ) (headings : List (List ℕ)) → length (columns_from at headings) ≤ length headings
unfolding columns_from
columns-few at [] = omega arith
columns-few at (heading ∷ headings) =
    let first = put-length (role_of heading) at heading (columns_from (at + 1) headings) in
    let rest = columns-few (at + 1) headings in
    omega arith

first-count : (role : Role) (cell : List ℕ) (first : List (Option Quantity)) (at : ℕ) (name : List ℕ) (columns : List Column) → HasValues role cell first
    → length first + length columns ≡ length (put_column role at name columns)
first-count under.Part cell first at name columns h = rw h.1 (omega arith)
first-count under.Kind cell first at name columns h = rw h.1 (omega arith)
first-count under.Package cell first at name columns h = rw h (omega arith)
first-count under.Footprint cell first at name columns h = rw h (omega arith)
first-count under.Price cell first at name columns h = rw h.1 (omega arith)
first-count under.Remark cell first at name columns h = rw h (omega arith)
first-count under.Attribute cell first at name columns h = rw h.2 (omega arith)

-- a row has one value for each attribute
values-count : (at : ℕ) (headings : List (List ℕ)) (cells : List (List ℕ)) (values : List (Option Quantity)) → AreValues (map role_of headings) cells values
    → length values ≡ length (columns_from at headings)
unfolding columns_from
values-count at [] [] values h = ap length h
values-count at [] (cell ∷ cells) values h = absurd h
values-count at (heading ∷ headings) [] values h = absurd h
values-count at (heading ∷ headings) (cell ∷ cells) values h =
    let rest = values-count (at + 1) headings cells h.1 h.4 in
    let first = first-count (role_of heading) cell h.0 at heading (columns_from (at + 1) headings) h.3 in
    let size = ap length h.2 ∙ length-append h.0 h.1 in
    omega arith

or-true : (a : Bool) → (a || true) ≡ true
or-true true = refl
or-true false = refl

-- a part of an earlier row is not that of a later one
new-part : (layout : Layout) (parts : List (List ℕ)) (records : List (List (List ℕ))) (rows : List CatalogRow) (part : List ℕ) → is_taken parts part ≡ true
    → AreRows layout parts records rows → AllByRecursion (λ later. part ≢ later) (map (λ row. row.part) rows)
new-part layout parts [] [] part taken h = tt
new-part layout parts [] (row ∷ rows) part taken h = absurd h
new-part layout parts (cells ∷ records) [] part taken h = absurd h
new-part layout parts (cells ∷ records) (row ∷ rows) part taken h =
    let still : is_taken (parts ++ part_in layout cells ∷ []) part ≡ true = rw (list_any-append (λ held. bytes_eq held part) parts (part_in layout cells ∷ []), taken) refl in
    let free = h.0.free in
    let named = h.1.part in
    ((λ same. let e : part ≡ part_in layout cells = same ∙ named in cc (rw e at taken, free)), new-part layout (parts ++ part_in layout cells ∷ []) records rows part still h.2)

different_parts : (layout : Layout) (parts : List (List ℕ)) (records : List (List (List ℕ))) (rows : List CatalogRow) → AreRows layout parts records rows
    → AreDifferent (map (λ row. row.part) rows)
different_parts layout parts [] [] h = tt
different_parts layout parts [] (row ∷ rows) h = absurd h
different_parts layout parts (cells ∷ records) [] h = absurd h
different_parts layout parts (cells ∷ records) (row ∷ rows) h =
    let part = part_in layout cells in
    let own : bytes_eq part part ≡ true = (bytes_eq-Decides part part).1 refl in
    let taken : is_taken (parts ++ part ∷ []) part ≡ true =
    rw (list_any-append (λ held. bytes_eq held part) parts (part ∷ []), own) (or-true (is_taken parts part)) in
    let named : row.part ≡ part = h.1.part in
    (rw named (new-part layout (parts ++ part ∷ []) records rows part taken h.2), different_parts layout (parts ++ part ∷ []) records rows h.2)

few-rows : (layout : Layout) (parts : List (List ℕ)) (records : List (List (List ℕ))) (rows : List CatalogRow) → length parts ≤ most_rows → AreRows layout parts records rows
    → length parts + length rows ≤ most_rows
few-rows layout parts [] [] few h = omega arith
few-rows layout parts [] (row ∷ rows) few h = absurd h
few-rows layout parts (cells ∷ records) [] few h = absurd h
few-rows layout parts (cells ∷ records) (row ∷ rows) few h =
    let size = length-append parts (part_in layout cells ∷ []) in
    let less = h.0.few in
    let rest = few-rows layout (parts ++ part_in layout cells ∷ []) records rows (omega arith) h.2 in
    omega arith

full-rows : (header : List (List ℕ)) (parts : List (List ℕ)) (records : List (List (List ℕ))) (rows : List CatalogRow) → AreRows (layout_of header) parts records rows
    → AllByRecursion (λ row. length row.cells ≡ length (layout_of header).attributes) rows
full-rows header parts [] [] h = tt
full-rows header parts [] (row ∷ rows) h = absurd h
full-rows header parts (cells ∷ records) [] h = absurd h
full-rows header parts (cells ∷ records) (row ∷ rows) h =
    (values-count 1 header cells row.cells h.1.values, full-rows header (parts ++ part_in (layout_of header) cells ∷ []) records rows h.2)

-- What is read is well made.
pub well_made : (records : List (List (List ℕ))) (catalog : Catalog) → IsReadIn records catalog → IsWellMade catalog
well_made [] catalog h = absurd h
well_made (header ∷ rows) catalog h =
    let few = no_fault-few header h.0 in
    let columns = columns-few 1 header in
    let same : length catalog.columns ≡ length (columns_from 1 header) = ap length h.1 in
    let rows_few = few-rows (layout_of header) [] rows catalog.rows (omega arith) h.2 in
    record {
      few_columns = omega arith;
      few_rows = omega arith;
      parts = different_parts (layout_of header) [] rows catalog.rows h.2;
      cells = rw h.1 (full-rows header [] rows catalog.rows h.2);
    }

pub ok-well_made : (records : List (List (List ℕ))) (r : Result Catalog Refusal) → IfOk r (IsReadIn records) → IfOk r IsWellMade
ok-well_made records (Ok catalog) h = well_made records catalog h
ok-well_made records (Err e) h = tt
