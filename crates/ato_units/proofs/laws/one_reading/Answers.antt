use Rattle.ato_units.proofs.OneReading.{one_reading}
use Rattle.ato_units.proofs.laws.one_reading.Goals as goal

pub returns : goal.returns
returns c = one_reading (rw (c.units-table.ensures.prefixable, c.units-table.ensures.whole_only) at c.units-table.result.one_reading)
