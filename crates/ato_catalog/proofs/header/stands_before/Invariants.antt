use Rattle.std.proofs.Common.{◌≡◌, false, take}
use Rattle.csv.specs.Records.{fields_of}
use Rattle.ato_catalog.specs.Header.{is_among}
use Rattle.ato_catalog.proofs.header.stands_before.Given as goal

abbrev pub invariant-loop-place : goal.invariant-loop-place
invariant-loop-place l = is_among (take l.place (fields_of l.header)) l.heading ≡ false
