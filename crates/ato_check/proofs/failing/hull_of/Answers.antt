use Rattle.ato_check.proofs.HullLaws.{none_at, spans_more}
use Rattle.ato_check.proofs.failing.hull_of.Goals as goal

pub returns-in_err-point : goal.returns-in_err-point
returns-in_err-point c =
    rw c.from_residual.ensures
    (none_at c.args.rows.now c.args.t.now c.loop-row.row-index c.row-item.result c.loop-row-test.true c.row-item.is c.in_err-point.ensures)

pub loop-row-preserved : goal.loop-row-preserved
loop-row-preserved c =
    spans_more c.args.rows.now c.args.t.now c.loop-row.row-index c.loop-row.found c.row-item.result c.in_ok-point.point c.widened.result
    c.loop-row-test.true c.row-item.is c.loop-row.invariant c.in_ok-point.ensures c.widened.ensures
