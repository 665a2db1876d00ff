use Rattle.std.proofs.Common.{◌≡◌, drop}
use Rattle.std.specs.List.{list_all}
use Rattle.csv.specs.Records.{fields_of}
use Rattle.ato_first_catalog.specs.Header.{is_attribute}
use Rattle.ato_first_catalog.proofs.header.are_attributes.Given as goal

abbrev pub invariant-loop-place : goal.invariant-loop-place
invariant-loop-place l = list_all is_attribute (drop 2 (fields_of l.header)) ≡ list_all is_attribute (drop l.place (fields_of l.header))
