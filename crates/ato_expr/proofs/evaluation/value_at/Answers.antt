use Rattle.std.proofs.Common.{[], sym, subst}
use Rattle.ato_base.proofs.ClassLaws.{first}
use Rattle.ato_expr.specs.declared.point.Point.{Point}
use Rattle.ato_expr.specs.declared.point.Point.TheVariants as points
use Rattle.ato_expr.specs.AtPoint.{ComesTo}
use Rattle.ato_expr.specs.Tables.{root}
use Rattle.ato_expr.proofs.AtPointLaws.{all_right}
use Rattle.ato_expr.proofs.HeldLaws.{label_read}
use Rattle.ato_expr.proofs.OnceLaws.{comes_once, stop_comes}
use Rattle.ato_expr.proofs.evaluation.value_at.Goals as goal

pub returns-in-Ok-clause-comes_to : goal.returns-in-Ok-clause-comes_to
returns-in-Ok-clause-comes_to c =
    label_read c.args.table.now c.args.world.now c.evaluate.new.scratch.ends c.args.root c.ends_at.result (c.in-Ok.ensures.done c.args.root (root (first c.args.root []))) c.ends_at.ensures

pub returns-in-Ok-clause-only : goal.returns-in-Ok-clause-only
returns-in-Ok-clause-only c = λ p h.
    comes_once c.args.table.now c.args.world.now c.args.root p (points.Value c.ends_at.result.0) h
    (label_read c.args.table.now c.args.world.now c.evaluate.new.scratch.ends c.args.root c.ends_at.result (c.in-Ok.ensures.done c.args.root (root (first c.args.root []))) c.ends_at.ensures)

pub returns-in-Ok-clause-right : goal.returns-in-Ok-clause-right
returns-in-Ok-clause-right c = λ point w.
    all_right c.args.world.now point w c.args.table.now c.args.root (points.Value c.ends_at.result.0)
    (label_read c.args.table.now c.args.world.now c.evaluate.new.scratch.ends c.args.root c.ends_at.result (c.in-Ok.ensures.done c.args.root (root (first c.args.root []))) c.ends_at.ensures)

pub returns-in-Err-clause-only : goal.returns-in-Err-clause-only
returns-in-Err-clause-only c = λ p h.
    comes_once c.args.table.now c.args.world.now c.args.root p c.refused.result h
    (subst (λ (q : Point). ComesTo c.args.table.now c.args.world.now c.args.root q) (sym c.refused.ensures)
    (stop_comes c.args.table.now c.args.world.now c.args.root c.in-Err.fault c.in-Err.ensures.done))

pub returns-in-Err-clause-right : goal.returns-in-Err-clause-right
returns-in-Err-clause-right c = λ point w.
    all_right c.args.world.now point w c.args.table.now c.args.root c.refused.result
    (subst (λ (q : Point). ComesTo c.args.table.now c.args.world.now c.args.root q) (sym c.refused.ensures)
    (stop_comes c.args.table.now c.args.world.now c.args.root c.in-Err.fault c.in-Err.ensures.done))
