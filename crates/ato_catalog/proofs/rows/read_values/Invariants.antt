use Rattle.std.proofs.Common.{take}
use Rattle.csv.specs.Records.{fields_of}
use Rattle.ato_catalog.specs.Rows.{AreValues}
use Rattle.ato_catalog.proofs.rows.read_values.Given as goal

abbrev pub invariant-loop-place : goal.invariant-loop-place
invariant-loop-place l = AreValues (take l.place l.roles) (take l.place (fields_of l.row)) l.values
