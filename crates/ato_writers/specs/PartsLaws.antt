-- What the kit's writer and reader of comma-separated text make of a parts list.
use Rattle.std.specs.Prelude.{◌≡◌, ℕ, List, [], ◌∷◌, codes, map}
use Rattle.csv.specs.Reading.{default_config, records, strip_bom}
use Rattle.csv.specs.Writing.{default_writer, row_text}
use Rattle.ato_base.specs.declared.nets.PartRow.{PartRow}
use Rattle.ato_writers.specs.PartsLists.{line_text, part_cells, parts_list}

-- A line of two cells or more is what the default writer writes for them.
abbrev pub LinesAreCsv : Type 0
LinesAreCsv = (first next : List ℕ) (more : List (List ℕ)) → line_text first (next ∷ more) ≡ row_text default_writer (first ∷ next ∷ more)

abbrev pub headings : List (List ℕ)
headings = codes "designator" ∷ codes "path" ∷ codes "type" ∷ codes "kind" ∷ codes "part" ∷ codes "package" ∷ codes "footprint" ∷ codes "price" ∷ []

-- The default reader reads a parts list as the headings and the cells of each part.
abbrev pub PartsReadBack : Type 0
PartsReadBack = (rows : List PartRow) → records default_config (strip_bom (parts_list rows)) ≡ headings ∷ map (λ row. row.designator ∷ part_cells row) rows

-- Two lists of parts with one text are one list.
abbrev pub OneListOfParts : Type 0
OneListOfParts = (rows others : List PartRow) → parts_list rows ≡ parts_list others → rows ≡ others
