use Rattle.std.proofs.Common.{refl, sym, ◌∙◌}
use Rattle.ato_elab.proofs.StepLemmas.{steps_on, steps_off, steps_end}
use Rattle.ato_elab.proofs.finding_paths.walked.Goals as goal

pub loop-next-init : goal.loop-next-init
loop-next-init c = refl

pub returns-in-Err : goal.returns-in-Err
returns-in-Err c = sym (c.loop-next.invariant ∙ steps_off _ _ _ _ _ _ _ _ c.loop-next-test.true c.onward.ensures c.in-Err.is)

pub loop-next-preserved : goal.loop-next-preserved
loop-next-preserved c = c.loop-next.invariant ∙ steps_on _ _ _ _ _ _ _ _ c.loop-next-test.true c.onward.ensures c.in-Ok.is

pub returns : goal.returns
returns c = c.ended.ensures ∙ sym (c.loop-next.invariant ∙ steps_end _ _ _ _ _ c.loop-next-test.false)
