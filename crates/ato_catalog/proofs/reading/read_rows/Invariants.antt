use Rattle.std.proofs.Common.{◌≡◌, ◌≤◌, ℕ, List, [], take, map}
use Rattle.csv.specs.Records.{fields_of}
use Rattle.ato_catalog.specs.Catalogue.{AreRows, is_taken}
use Rattle.ato_catalog.specs.Limits.{most_rows}
use Rattle.ato_catalog.specs.Parts.{has_part}
use Rattle.ato_catalog.proofs.RowLaws.{parts_of}
use Rattle.ato_catalog.proofs.reading.read_rows.Given as goal

abbrev pub invariant-loop-before : goal.invariant-loop-before
invariant-loop-before l = record {
  few : l.before ≤ most_rows;
  rows : AreRows l.layout [] (map fields_of (take l.before l.records)) l.rows;
  parts : (part : List ℕ) → has_part l.parts part ≡ is_taken (parts_of l.layout (map fields_of (take l.before l.records))) part;
}
