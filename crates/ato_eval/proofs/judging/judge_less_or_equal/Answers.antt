use Rattle.ato_expr.specs.declared.ops.Relation.TheVariants as relations
use Rattle.ato_eval.specs.Corners.{narrowed}
use Rattle.ato_eval.proofs.SideLaws.{at_most_judged, stop_judged}
use Rattle.ato_eval.proofs.judging.judge_less_or_equal.Goals as goal

pub returns-in-Ok-clause-judges : goal.returns-in-Ok-clause-judges
returns-in-Ok-clause-judges c =
    at_most_judged c.args.table.now (narrowed c.args.ranges.now c.args.high.now) c.args.left c.args.right _ _ c.less_or_equal.result c.in-Ok.ensures.sides.0 c.in-Ok.ensures.sides.1 c.less_or_equal.ensures

pub returns-in-Err-clause-judges : goal.returns-in-Err-clause-judges
returns-in-Err-clause-judges c =
    stop_judged c.args.table.now (narrowed c.args.ranges.now c.args.high.now) (relations.LessEq c.args.left c.args.right) c.in-Err.reason c.stopped.result c.stopped.ensures c.in-Err.ensures.sides
