use Rattle.ato_check.proofs.SelectedLaws.{no_part, sum_between}
use Rattle.ato_check.proofs.failing.between.Goals as goal

pub returns-in_err-part : goal.returns-in_err-part
returns-in_err-part c = rw c.from_residual-in_err-part.ensures (no_part c.in_ok-width.width c.in_ok-width.ensures.1 c.in_err-part.ensures)

pub returns : goal.returns
returns c =
    sum_between c.args.t.now c.args.row.now c.in_ok-width.width c.in_ok-part.part c.in_ok-width.ensures.0 c.in_ok-width.ensures.1 c.in_ok-part.ensures.0 c.in_ok-part.ensures.1
    c.plus.result c.plus.ensures
