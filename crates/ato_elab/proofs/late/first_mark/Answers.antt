use Rattle.std.proofs.Common.{refl, sym, ◌∙◌}
use Rattle.ato_elab.proofs.MarkedLemmas.{marks_here, marks_later, marks_end}
use Rattle.ato_elab.proofs.late.first_mark.Goals as goal

pub returns-in-Some : goal.returns-in-Some
returns-in-Some c = sym (c.loop-number.invariant ∙ marks_here c.args.ground.now c.args.ground.now.stmts.now c.loop-number.number c.stmt-item.result c.in-Some.found c.loop-number-test.true c.stmt-item.is (sym c.in_ok-found.ensures ∙ c.in-Some.is))

pub loop-number-preserved : goal.loop-number-preserved
loop-number-preserved c = c.loop-number.invariant ∙ marks_later c.args.ground.now c.args.ground.now.stmts.now c.loop-number.number c.stmt-item.result c.loop-number-test.true c.stmt-item.is (sym c.in_ok-found.ensures ∙ c.in-None.is)

pub returns : goal.returns
returns c = sym (c.loop-number.invariant ∙ marks_end c.args.ground.now c.args.ground.now.stmts.now c.loop-number.number c.loop-number-test.false)
