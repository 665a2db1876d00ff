use Rattle.std.proofs.Common.{◌≡◌, ◌+◌, drop}
use Rattle.csv.specs.Records.{fields_of}
use Rattle.ato_first_catalog.specs.Header.{is_among}
use Rattle.ato_first_catalog.proofs.header.stands_later.Given as goal

abbrev pub invariant-loop-place : goal.invariant-loop-place
invariant-loop-place l = is_among (drop (l.after + 1) (fields_of l.header)) l.heading ≡ is_among (drop l.place (fields_of l.header)) l.heading
