use Rattle.std.proofs.Common.{◌≡◌, [], take, drop}
use Rattle.csv.specs.Records.{fields_of}
use Rattle.ato_catalog.specs.Header.{twice_after}
use Rattle.ato_catalog.proofs.header.find_twice.Given as goal

abbrev pub invariant-loop-place : goal.invariant-loop-place
invariant-loop-place l = twice_after [] (fields_of l.header) ≡ twice_after (take l.place (fields_of l.header)) (drop l.place (fields_of l.header))
