use Rattle.std.proofs.Common.{◌≡◌, ◌≤◌, ℕ, List, [], take, drop, map}
use Rattle.csv.specs.Records.{fields_of}
use Rattle.ato_first_catalog.specs.Catalogue.{ShowsRows}
use Rattle.ato_first_catalog.specs.Contents.{first_fault, is_taken}
use Rattle.ato_first_catalog.specs.Limits.{most_rows}
use Rattle.ato_first_catalog.specs.Parts.{has_part}
use Rattle.ato_first_catalog.specs.Rows.{row_of}
use Rattle.ato_first_catalog.proofs.FirstFault.{parts_of}
use Rattle.ato_first_catalog.proofs.reading.read_rows.Given as goal

abbrev pub invariant-loop-before : goal.invariant-loop-before
invariant-loop-before l = record {
  few : l.before ≤ most_rows;
  rows : ShowsRows l.rows (map (λ row. row_of l.layout (fields_of row)) (take l.before l.records));
  parts : (part : List ℕ) → has_part l.parts part ≡ is_taken (parts_of fields_of l.layout (take l.before l.records)) part;
  sound : first_fault l.layout [] (map fields_of l.records) ≡ first_fault l.layout (parts_of fields_of l.layout (take l.before l.records)) (map fields_of (drop l.before l.records));
}
