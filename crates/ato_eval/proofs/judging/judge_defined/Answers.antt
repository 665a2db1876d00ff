use Rattle.ato_expr.specs.declared.ops.Relation.TheVariants as relations
use Rattle.ato_eval.specs.Corners.{narrowed}
use Rattle.ato_eval.proofs.SideLaws.{defined_judged, stop_judged}
use Rattle.ato_eval.proofs.judging.judge_defined.Goals as goal

pub returns-in-Ok-clause-judges : goal.returns-in-Ok-clause-judges
returns-in-Ok-clause-judges c = defined_judged c.args.table.now (narrowed c.args.ranges.now c.args.high.now) c.args.node _ c.in-Ok.ensures.side

pub returns-in-Err-clause-judges : goal.returns-in-Err-clause-judges
returns-in-Err-clause-judges c =
    stop_judged c.args.table.now (narrowed c.args.ranges.now c.args.high.now) (relations.Defined c.args.node) c.in-Err.reason c.stopped.result c.stopped.ensures c.in-Err.ensures.side
