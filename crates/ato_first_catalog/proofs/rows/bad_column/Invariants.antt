use Rattle.std.proofs.Common.{◌≡◌, ◌+◌, drop}
use Rattle.csv.specs.Records.{fields_of}
use Rattle.ato_first_catalog.specs.Rows.{bad_column}
use Rattle.ato_first_catalog.proofs.rows.bad_column.Given as goal

abbrev pub invariant-loop-place : goal.invariant-loop-place
invariant-loop-place l = bad_column l.layout 1 (fields_of l.row) ≡ bad_column l.layout (l.place + 1) (drop l.place (fields_of l.row))
