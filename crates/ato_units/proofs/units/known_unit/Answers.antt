use Rattle.std.proofs.Common.{sym}
use Rattle.ato_units.specs.UnitReading.{found_meaning}
use Rattle.ato_units.proofs.OneReading.{unit_small}
use Rattle.ato_units.proofs.Scales.{passed_small}
use Rattle.ato_units.proofs.units.known_unit.Goals as goal

pub invariant_of-result : goal.invariant_of-result
invariant_of-result c = record { small = passed_small _ (unit_small c.as_bytes.result.now (found_meaning c.in-Some.found) (sym c.in-Some.ensures)) }
