use Rattle.ato_units.proofs.UnitTexts.{found_now, found_later}
use Rattle.ato_units.proofs.units.find_prefixed.Goals as goal

pub returns-in-Some : goal.returns-in-Some
returns-in-Some c = found_now _ _ _ _ _ c.loop-prefix-test.true c.loop-prefix.invariant c.in-Some.ensures

pub loop-prefix-preserved : goal.loop-prefix-preserved
loop-prefix-preserved c = found_later _ _ _ _ _ c.loop-prefix-test.true c.loop-prefix.invariant c.in-None.ensures
