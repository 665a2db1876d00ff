-- The records of a text of comma-separated cells.
use Rattle.std.specs.Prelude.{ℕ, List}
use Rattle.csv.specs.Reading.{default_config, records, strip_bom}

-- The records of some bytes, each a list of cells: one byte order mark at the start is dropped, and what stands after it is read
-- by the default reader of `csv`, which drops one more. Quotes are taken off, lines end with LF, CR LF or CR, and empty lines are
-- passed over.
abbrev pub records_of : List ℕ → List (List (List ℕ))
records_of bytes = records default_config (strip_bom (strip_bom bytes))
