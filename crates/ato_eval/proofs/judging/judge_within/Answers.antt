use Rattle.ato_expr.specs.declared.ops.Relation.TheVariants as relations
use Rattle.ato_eval.specs.Corners.{narrowed}
use Rattle.ato_eval.proofs.SideLaws.{within_judged, stop_judged}
use Rattle.ato_eval.proofs.judging.judge_within.Goals as goal

pub returns-in-Ok-clause-judges : goal.returns-in-Ok-clause-judges
returns-in-Ok-clause-judges c =
    within_judged c.args.table.now (narrowed c.args.ranges.now c.args.high.now) c.args.node c.args.target.now c.in-Ok.side c.within.result c.in-Ok.ensures.side (rw c.as_slice.ensures at c.within.ensures)

pub returns-in-Err-clause-judges : goal.returns-in-Err-clause-judges
returns-in-Err-clause-judges c =
    stop_judged c.args.table.now (narrowed c.args.ranges.now c.args.high.now) (relations.Within c.args.node c.args.target.now) c.in-Err.reason c.stopped.result c.stopped.ensures c.in-Err.ensures.side
