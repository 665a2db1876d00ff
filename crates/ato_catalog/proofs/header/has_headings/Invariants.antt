use Rattle.std.proofs.Common.{◌≡◌, true, take}
use Rattle.std.specs.List.{list_all}
use Rattle.csv.specs.Records.{fields_of}
use Rattle.ato_catalog.specs.Header.{is_some_text}
use Rattle.ato_catalog.proofs.header.has_headings.Given as goal

abbrev pub invariant-loop-place : goal.invariant-loop-place
invariant-loop-place l = list_all is_some_text (take l.place (fields_of l.header)) ≡ true
