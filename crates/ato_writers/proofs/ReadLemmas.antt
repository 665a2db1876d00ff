-- The default reader of comma-separated text reads a parts list back.
use Rattle.std.proofs.Common.{◌≡◌, ◌∙◌, ◌++◌, ◌+◌, ◌≤◌, ◌∷◌, [], ℕ, zero, suc, List, Some, arith, get_or, length, length-append, drop, refl, sym, ap, codes}
use Rattle.std.specs.Prelude.{map}
use Rattle.std.specs.List.{flat_map}
use Rattle.csv.specs.Machine.{next_record}
use Rattle.csv.specs.Reading.{default_config, records, records_from, strip_bom}
use Rattle.csv.specs.Writing.{default_writer, escaped, fields_text, is_blank, row_text}
use Rattle.csv.specs.declared.parser.State.TheVariants as st
use Rattle.csv.proofs.RoundTrip.{read-write-many}
use Rattle.ato_base.specs.declared.nets.PartRow.{PartRow}
use Rattle.ato_writers.specs.PartsLists.{cell_text, line_text, more_text, part_cells, part_text, parts_list}
use Rattle.ato_writers.specs.PartsLaws.{headings}
use Rattle.ato_writers.proofs.PartsLemmas.{lines_are_csv}

abbrev cells_of : PartRow → List (List ℕ)
cells_of row = row.designator ∷ part_cells row

step_read : (m : ℕ) (xs : List ℕ) (fields : List (List ℕ)) (tail : List ℕ) → next_record default_config st.StartRecord [] [] xs ≡ Some (fields, st.StartRecord, tail)
    → records_from default_config (suc m) st.StartRecord xs ≡ fields ∷ records_from default_config m st.StartRecord tail
unfolding records_from
step_read m xs fields tail e = rw e refl

nothing_read : (m : ℕ) → records_from default_config m st.StartRecord [] ≡ []
unfolding records_from next_record
nothing_read zero = refl
nothing_read (suc m) = refl

part_is : (row : PartRow) → part_text row ≡ row_text default_writer (cells_of row)
unfolding part_text
part_is row = lines_are_csv row.designator row.path _

part_read : (row : PartRow) (tail : List ℕ) → next_record default_config st.StartRecord [] [] (part_text row ++ tail) ≡ Some (cells_of row, st.StartRecord, tail)
part_read row tail = ap (λ t. next_record default_config st.StartRecord [] [] (t ++ tail)) (part_is row) ∙ read-write-many row.designator row.path _ tail

parts_read : (rows : List PartRow) (m : ℕ) → length rows ≤ m → records_from default_config m st.StartRecord (flat_map part_text rows) ≡ map cells_of rows
parts_read [] m le = nothing_read m
parts_read (row ∷ rest) zero le = absurd (omega (arith, le))
parts_read (row ∷ rest) (suc m) le =
    step_read m (flat_map part_text (row ∷ rest)) (cells_of row) (flat_map part_text rest) (part_read row (flat_map part_text rest))
    ∙ ap (λ more. cells_of row ∷ more) (parts_read rest m (omega (arith, le)))

part_long : (row : PartRow) → 1 ≤ length (part_text row)
unfolding part_text line_text
part_long row =
    let a = length-append (cell_text row.designator) (more_text (part_cells row) ++ 10 ∷ []) in
    let b = length-append (more_text (part_cells row)) (10 ∷ []) in
    omega (arith, a, b)

parts_long : (rows : List PartRow) → length rows ≤ length (flat_map part_text rows)
parts_long [] = omega arith
parts_long (row ∷ rest) =
    let a = length-append (part_text row) (flat_map part_text rest) in
    omega (arith, a, part_long row, parts_long rest)

abbrev head : List ℕ
head = codes "designator,path,type,kind,part,package,footprint,price\n"

head_read : (tail : List ℕ) → next_record default_config st.StartRecord [] [] (head ++ tail) ≡ Some (headings, st.StartRecord, tail)
unfolding escaped fields_text is_blank
head_read tail = read-write-many (codes "designator") (codes "path") (codes "type" ∷ codes "kind" ∷ codes "part" ∷ codes "package" ∷ codes "footprint" ∷ codes "price" ∷ []) tail

unmarked : (rows : List PartRow) → strip_bom (parts_list rows) ≡ head ++ flat_map part_text rows
unfolding strip_bom parts_list
unmarked rows = refl

pub parts_read_back : (rows : List PartRow) → records default_config (strip_bom (parts_list rows)) ≡ headings ∷ map cells_of rows
parts_read_back rows =
    let text = head ++ flat_map part_text rows in
    let more : length text + 1 ≡ suc (length text) = omega arith in
    let long : length rows ≤ length text = omega (arith, length-append head (flat_map part_text rows), parts_long rows) in
    ap (records default_config) (unmarked rows)
    ∙ ap (λ n. records_from default_config n st.StartRecord text) more
    ∙ step_read (length text) text headings (flat_map part_text rows) (head_read (flat_map part_text rows))
    ∙ ap (λ rest. headings ∷ rest) (parts_read rows (length text) long)

row_of : List (List ℕ) → PartRow
row_of cells = record {
  designator = get_or cells 0 [];
  path = get_or cells 1 [];
  kind_name = get_or cells 2 [];
  kind = get_or cells 3 [];
  part = get_or cells 4 [];
  «package» = get_or cells 5 [];
  footprint = get_or cells 6 [];
  price = get_or cells 7 [];
}

rows_back : (rows : List PartRow) → map row_of (map cells_of rows) ≡ rows
unfolding row_of
rows_back [] = refl
rows_back (row ∷ rest) = ap (λ more. row ∷ more) (rows_back rest)

pub one_list_of_parts : (rows others : List PartRow) → parts_list rows ≡ parts_list others → rows ≡ others
one_list_of_parts rows others same =
    let read = sym (parts_read_back rows) ∙ ap (λ t. records default_config (strip_bom t)) same ∙ parts_read_back others in
    sym (rows_back rows) ∙ ap (λ all. map row_of (drop 1 all)) read ∙ rows_back others
