use Rattle.ato_units.proofs.Exponents.{one_more}
use Rattle.ato_units.proofs.dims.Dim.over.Goals as goal

pub loop-i-preserved : goal.loop-i-preserved
loop-i-preserved c = one_more _ _ _ _ c.loop-i-test.true c.loop-i.invariant c.in_ok-exponents.ensures
