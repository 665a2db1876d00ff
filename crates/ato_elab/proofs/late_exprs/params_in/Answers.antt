use Rattle.std.proofs.Common.{refl, sym, ◌∙◌}
use Rattle.ato_elab.proofs.ParamLemmas.{params_here, params_later, params_end}
use Rattle.ato_elab.proofs.late_exprs.params_in.Goals as goal

pub returns-in-Some : goal.returns-in-Some
returns-in-Some c = sym (c.loop-path.invariant ∙ params_here c.args.ground.now c.args.instance c.args.list.now c.loop-path.path-index c.path-item.result c.in-Some.mark c.loop-path-test.true c.path-item.is (sym c.path_mark.ensures ∙ c.in-Some.is))

pub loop-path-preserved : goal.loop-path-preserved
loop-path-preserved c = c.loop-path.invariant ∙ params_later c.args.ground.now c.args.instance c.args.list.now c.loop-path.path-index c.path-item.result c.loop-path-test.true c.path-item.is (sym c.path_mark.ensures ∙ c.in-None.is)

pub returns : goal.returns
returns c = sym (c.loop-path.invariant ∙ params_end c.args.ground.now c.args.instance c.args.list.now c.loop-path.path-index c.loop-path-test.false)
