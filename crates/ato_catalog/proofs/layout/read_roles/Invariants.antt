use Rattle.std.proofs.Common.{◌≡◌, map, take}
use Rattle.csv.specs.Records.{fields_of}
use Rattle.ato_catalog.specs.Header.{role_of}
use Rattle.ato_catalog.proofs.layout.read_roles.Given as goal

abbrev pub invariant-loop-place : goal.invariant-loop-place
invariant-loop-place l = l.roles ≡ map role_of (take l.place (fields_of l.header))
