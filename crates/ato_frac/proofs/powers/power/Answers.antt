use Rattle.ato_frac.proofs.PowerLaws.{next_power, raised_more}
use Rattle.ato_frac.proofs.powers.power.Goals as goal

pub factors-preserved : goal.factors-preserved
factors-preserved g c = record {
  raised = raised_more g.Q.Exact.value g.Q.Exact.can_multiply _ _ _ c.factors.invariant.raised c.factors.invariant.is_power c.in_ok-power.ensures.0;
  is_power = next_power _ _ _ _ c.factors.invariant.is_power c.in_ok-power.ensures.1;
}
