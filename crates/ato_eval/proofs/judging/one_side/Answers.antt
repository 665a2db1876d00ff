use Rattle.std.proofs.Common.{[]}
use Rattle.ato_base.proofs.ClassLaws.{first}
use Rattle.ato_expr.specs.Tables.{root}
use Rattle.ato_eval.specs.Corners.{narrowed}
use Rattle.ato_eval.proofs.KeptLaws.{interval_kept, kept_has}
use Rattle.ato_eval.proofs.judging.one_side.Goals as goal

pub interval_at-requires : goal.interval_at-requires
interval_at-requires c = interval_kept (c.in-Ok.ensures.done c.args.node (root (first c.args.node [])))

pub returns-in-Ok-clause-side : goal.returns-in-Ok-clause-side
returns-in-Ok-clause-side c =
    kept_has c.args.table.now (narrowed c.args.ranges.now c.args.high.now) _ c.args.node c.interval_at.result
    (c.in-Ok.ensures.done c.args.node (root (first c.args.node [])))
    c.interval_at.ensures
