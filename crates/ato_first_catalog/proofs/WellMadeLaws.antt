-- A catalogue that is read is well made.
use Rattle.std.proofs.Common.{◌≡◌, ◌≢◌, ◌≤◌, ◌+◌, ◌-◌, ◌++◌, ◌∷◌, [], ℕ, suc, List, Bool, true, false, Option, Some, None, Err, length, drop, map, refl, arith, ◌∙◌, ap}
use Rattle.std.specs.Prelude.{◌||◌, not, nat_le, if◌then◌else◌, IfSome, option_and_then, codes, nat_eq, ◌==◌}
use Rattle.std.specs.List.{AllByRecursion, starts_with}
use Rattle.std.specs.Str.{bytes_eq}
use Rattle.std.proofs.lemmas.List.{length-drop, length-map}
use Rattle.std.proofs.lemmas.Bool.Decides.{nat_tests}
use Rattle.std.proofs.lemmas.List.Folds.{list_any-append}
use Rattle.std.proofs.lemmas.Slice.Eq.{bytes_eq-Decides}
use Rattle.ato_base.specs.declared.faults.Fault.{Fault}
use Rattle.ato_frac.specs.declared.fraction.Frac.{Frac}
use Rattle.ato_frac.specs.Fractions.{value_of}
use Rattle.ato_rational.specs.Rational.{◌≤ℚ◌}
use Rattle.ato_first_catalog.specs.Catalogue.{IsRead, ShowsCell, ShowsCells, ShowsContents, ShowsRows}
use Rattle.ato_first_catalog.specs.Contents.{contents_in, first_fault, is_taken, no_header, unless_fault}
use Rattle.ato_first_catalog.specs.Header.{columns_from, is_among, is_distinct, is_header, layout_of}
use Rattle.ato_first_catalog.specs.Limits.{most_attributes}
use Rattle.ato_first_catalog.specs.Ranges.{between, number_of, range_of, up_to}
use Rattle.ato_first_catalog.specs.Rows.{PlainRow, cell_in, part_in, row_of}
use Rattle.ato_first_catalog.specs.WellMade.{AreDifferent, IsInOrder, IsWellMade}
use Rattle.ato_first_catalog.specs.declared.header.Layout.{Layout}
use Rattle.ato_first_catalog.specs.declared.reading.Catalog.{Catalog}
use Rattle.ato_first_catalog.specs.declared.rows.CatalogRow.{CatalogRow}
use Rattle.ato_first_catalog.proofs.CellLaws.{and-true}
use Rattle.ato_first_catalog.proofs.NoFaultLaws.{few-rows, first_fault-none}
use Rattle.ato_first_catalog.proofs.WholeLaws.{at_most_from_whole}

-- the parts of a header's test that speak of the number of columns and of their names
record IsNamed (header : List (List ℕ)) : Type 0 where
  few : length header ≤ 2 + most_attributes
  distinct : is_distinct (drop 2 header) ≡ true

at-most : (m n : ℕ) → nat_le m n ≡ true → m ≤ n
at-most m n test = grind (arith, nat_tests)

is_named : (header : List (List ℕ)) → is_header header ≡ true → IsNamed header
unfolding is_header
is_named header e =
    let last = and-true _ _ e in
    let attributes = and-true _ _ last.0 in
    let kind = and-true _ _ attributes.0 in
    let part = and-true _ _ kind.0 in
    let text = and-true _ _ part.0 in
    let few : nat_le (length header) (2 + most_attributes) ≡ true = (and-true _ _ text.0).1 in
    record { few = at-most (length header) (2 + most_attributes) few; distinct = last.1 }

length-columns_from : (at : ℕ) (names : List (List ℕ)) → length (columns_from at names) ≡ length names
unfolding columns_from
length-columns_from at [] = refl
length-columns_from at (name ∷ names) = ap suc (length-columns_from (at + 1) names)

names-columns_from : (at : ℕ) (names : List (List ℕ)) → map (λ column. column.name) (columns_from at names) ≡ names
unfolding columns_from
names-columns_from at [] = refl
names-columns_from at (name ∷ names) = ap (λ more. name ∷ more) (names-columns_from (at + 1) names)

not-true : (b : Bool) → not b ≡ true → b ≡ false
not-true true e = cc e
not-true false e = refl

or-false : (a b : Bool) → (a || b) ≡ false → (a ≡ false) × (b ≡ false)
or-false true b e = cc e
or-false false b e = (refl, e)

-- a text that is not among others differs from each
differs : (text : List ℕ) (texts : List (List ℕ)) → is_among texts text ≡ false → AllByRecursion (λ later. text ≢ later) texts
differs text [] e = tt
differs text (other ∷ texts) e =
    let both = or-false (bytes_eq text other) (is_among texts text) e in
    ((λ same. cc ((bytes_eq-Decides text other).1 same, both.0)), differs text texts both.1)

distinct_names : (names : List (List ℕ)) → is_distinct names ≡ true → AreDifferent names
unfolding is_distinct
distinct_names [] e = tt
distinct_names (name ∷ names) e =
    let both = and-true (not (is_among names name)) (is_distinct names) e in
    (differs name names (not-true (is_among names name) both.0), distinct_names names both.1)

-- a part of an earlier row is not that of a later one
new-part : (layout : Layout) (parts : List (List ℕ)) (rows : List (List (List ℕ))) (part : List ℕ) → is_taken parts part ≡ true → first_fault layout parts rows ≡ None
    → AllByRecursion (λ later. part ≢ later) (map (λ row. row.part) (map (row_of layout) rows))
new-part layout parts [] part taken e = tt
new-part layout parts (cells ∷ rows) part taken e =
    let (here, later) = first_fault-none layout parts cells rows e in
    let still : is_taken (parts ++ part_in layout cells ∷ []) part ≡ true = rw (list_any-append (λ held. bytes_eq held part) parts (part_in layout cells ∷ []), taken) refl in
    ((λ same. cc (rw same at taken, here.new)), new-part layout (parts ++ part_in layout cells ∷ []) rows part still later)

or-true : (a : Bool) → (a || true) ≡ true
or-true true = refl
or-true false = refl

different_parts : (layout : Layout) (parts : List (List ℕ)) (rows : List (List (List ℕ))) → first_fault layout parts rows ≡ None
    → AreDifferent (map (λ row. row.part) (map (row_of layout) rows))
different_parts layout parts [] e = tt
different_parts layout parts (cells ∷ rows) e =
    let (here, later) = first_fault-none layout parts cells rows e in
    let part = part_in layout cells in
    let own : bytes_eq part part ≡ true = (bytes_eq-Decides part part).1 refl in
    let taken : is_taken (parts ++ part ∷ []) part ≡ true =
    rw (list_any-append (λ held. bytes_eq held part) parts (part ∷ []), own) (or-true (is_taken parts part)) in
    (new-part layout (parts ++ part ∷ []) rows part taken later, different_parts layout (parts ++ part ∷ []) rows later)

-- the ends of a range, if there is one, are in order
abbrev pub IsOrdered : Option (ℕ × ℕ) → Type 0
IsOrdered cell = IfSome cell (λ ends. ends.0 ≤ ends.1)

then-ordered : (f : ℕ → Option (ℕ × ℕ)) (o : Option ℕ) → ((n : ℕ) → IsOrdered (f n)) → IsOrdered (option_and_then f o)
then-ordered f None h = tt
then-ordered f (Some n) h = h n

between-ordered : (low high : ℕ) → IsOrdered (between low high)
between-ordered low high = by (nat_le low high) refl
  where
    by : (b : Bool) → nat_le low high ≡ b → IsOrdered (if b then Some (low, high) else None)
    by true e = grind (arith, nat_tests)
    by false e = tt

up_to-ordered : (low : ℕ) (rest : List ℕ) → IsOrdered (up_to low rest)
unfolding up_to
up_to-ordered low rest = by (length rest == 0) (starts_with nat_eq rest (codes " to "))
  where
    by : (b d : Bool) → IsOrdered (if b then Some (low, low) else if d then option_and_then (between low) (number_of (drop 4 rest)) else None)
    by true d = omega arith
    by false true = then-ordered (between low) (number_of (drop 4 rest)) (between-ordered low)
    by false false = tt

pub range-ordered : (cell : List ℕ) → IsOrdered (range_of cell)
unfolding range_of
range-ordered cell = then-ordered _ _ (λ low. up_to-ordered low _)

-- What holds of each row in whole numbers: one cell for each attribute, and ranges in order.
record IsPlainRow (width : ℕ) (plain : PlainRow) : Type 0 where
  cells : length plain.cells ≡ width
  ordered : AllByRecursion IsOrdered plain.cells

ordered_cells : {X : Type 0} (text_of : X → List ℕ) (columns : List X) → AllByRecursion IsOrdered (map (λ column. range_of (text_of column)) columns)
ordered_cells text_of [] = tt
ordered_cells text_of (column ∷ columns) = (range-ordered (text_of column), ordered_cells text_of columns)

plain_rows : (layout : Layout) (rows : List (List (List ℕ))) → AllByRecursion (IsPlainRow (length layout.attributes)) (map (row_of layout) rows)
plain_rows layout [] = tt
plain_rows layout (cells ∷ rows) = (
  record {
    cells = length-map layout.attributes (λ column. range_of (cell_in cells column.at));
    ordered = ordered_cells (λ column. cell_in cells column.at) layout.attributes;
  },
  plain_rows layout rows,
)

-- the same of the rows that show them
shows_cells-length : (cells : List (Option (Frac × Frac))) (plains : List (Option (ℕ × ℕ))) → ShowsCells cells plains → length cells ≡ length plains
shows_cells-length [] [] h = refl
shows_cells-length [] (plain ∷ plains) h = absurd h
shows_cells-length (cell ∷ cells) [] h = absurd h
shows_cells-length (cell ∷ cells) (plain ∷ plains) h = ap suc (shows_cells-length cells plains h.1)

cell-ordered : (cell : Option (Frac × Frac)) (plain : Option (ℕ × ℕ)) → ShowsCell cell plain → IsOrdered plain → IfSome cell (λ ends. value_of ends.0 ≤ℚ value_of ends.1)
cell-ordered None None h ordered = tt
cell-ordered None (Some numbers) h ordered = absurd h
cell-ordered (Some ends) None h ordered = absurd h
cell-ordered (Some ends) (Some numbers) h ordered = at_most_from_whole (value_of ends.0) (value_of ends.1) numbers.0 numbers.1 h.0 h.1 ordered

cells-ordered : (cells : List (Option (Frac × Frac))) (plains : List (Option (ℕ × ℕ))) → ShowsCells cells plains → AllByRecursion IsOrdered plains
    → AllByRecursion (λ cell. IfSome cell (λ ends. value_of ends.0 ≤ℚ value_of ends.1)) cells
cells-ordered [] [] h ordered = tt
cells-ordered [] (plain ∷ plains) h ordered = absurd h
cells-ordered (cell ∷ cells) [] h ordered = absurd h
cells-ordered (cell ∷ cells) (plain ∷ plains) h ordered = (cell-ordered cell plain h.0 ordered.0, cells-ordered cells plains h.1 ordered.1)

-- What holds of rows that show rows in whole numbers.
record IsRowList (width : ℕ) (rows : List CatalogRow) (plains : List PlainRow) : Type 0 where
  count : length rows ≡ length plains
  parts : map (λ row. row.part) rows ≡ map (λ plain. plain.part) plains
  cells : AllByRecursion (λ row. length row.cells ≡ width) rows
  ranges : AllByRecursion IsInOrder rows

row_list : (width : ℕ) (rows : List CatalogRow) (plains : List PlainRow) → ShowsRows rows plains → AllByRecursion (IsPlainRow width) plains → IsRowList width rows plains
row_list width [] [] h plain = record { count = refl; parts = refl; cells = tt; ranges = tt }
row_list width [] (p ∷ plains) h plain = absurd h
row_list width (row ∷ rows) [] h plain = absurd h
row_list width (row ∷ rows) (p ∷ plains) h plain =
    let more = row_list width rows plains h.1 plain.1 in
    record {
      count = ap suc more.count;
      parts = rw (h.0.part, more.parts) refl;
      cells = (shows_cells-length row.cells p.cells h.0.cells ∙ plain.0.cells, more.cells);
      ranges = (cells-ordered row.cells p.cells h.0.cells plain.0.ordered, more.ranges);
    }

-- the catalogue of a header and rows without a fault is well made
made : (header : List (List ℕ)) (rows : List (List (List ℕ))) (catalog : Catalog) → is_header header ≡ true → first_fault (layout_of header) [] rows ≡ None
    → ShowsContents catalog (record { columns = (layout_of header).attributes; rows = map (row_of (layout_of header)) rows }) → IsWellMade catalog
made header rows catalog named sound shows =
    let is = is_named header named in
    let list = row_list (length (layout_of header).attributes) catalog.rows (map (row_of (layout_of header)) rows) shows.rows (plain_rows (layout_of header) rows) in
    let few = few-rows (layout_of header) [] rows (omega arith) sound in
    let count = length-map rows (row_of (layout_of header)) in
    let columns : length catalog.columns ≡ length header - 2 = ap length shows.columns ∙ (length-columns_from 3 (drop 2 header) ∙ length-drop 2 header) in
    record {
      few_columns = omega (arith, columns, is.few);
      few_rows = omega (arith, list.count, count, few);
      names = rw (shows.columns, names-columns_from 3 (drop 2 header)) (distinct_names (drop 2 header) is.distinct);
      parts = rw list.parts (different_parts (layout_of header) [] rows sound);
      cells = rw shows.columns list.cells;
      ranges = list.ranges;
    }

-- what is read is well made
pub contents_in-well_made : (records : List (List (List ℕ))) (catalog : Catalog) → IsRead (contents_in records) catalog → IsWellMade catalog
unfolding contents_in
contents_in-well_made [] catalog h = absurd h
contents_in-well_made (header ∷ rows) catalog h = by (is_header header) (first_fault (layout_of header) [] rows) refl refl h
  where
    by : (named : Bool) (found : Option Fault) → is_header header ≡ named → first_fault (layout_of header) [] rows ≡ found
        → IsRead (if named then unless_fault found (layout_of header) rows else Err no_header) catalog → IsWellMade catalog
    by true None e sound k = made header rows catalog e sound k
    by true (Some found) e sound k = absurd k
    by false found e sound k = absurd k
