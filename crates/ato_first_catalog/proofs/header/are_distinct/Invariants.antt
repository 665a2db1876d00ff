use Rattle.std.proofs.Common.{◌≡◌, drop}
use Rattle.csv.specs.Records.{fields_of}
use Rattle.ato_first_catalog.specs.Header.{is_distinct}
use Rattle.ato_first_catalog.proofs.header.are_distinct.Given as goal

abbrev pub invariant-loop-place : goal.invariant-loop-place
invariant-loop-place l = is_distinct (drop 2 (fields_of l.header)) ≡ is_distinct (drop l.place (fields_of l.header))
