use Rattle.std.proofs.Common.{◌≡◌, ◌+◌, ◌++◌, drop}
use Rattle.csv.specs.Records.{fields_of}
use Rattle.ato_catalog.specs.Header.{columns_from}
use Rattle.ato_catalog.proofs.layout.read_attributes.Given as goal

abbrev pub invariant-loop-place : goal.invariant-loop-place
invariant-loop-place l = columns_from 1 (fields_of l.header) ≡ l.columns ++ columns_from (l.place + 1) (drop l.place (fields_of l.header))
