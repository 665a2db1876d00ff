use Rattle.ato_first.proofs.FirstFormLemmas.{no_left, no_right}
use Rattle.ato_first.proofs.lines.sides.Goals as goal

pub returns-in_err-left : goal.returns-in_err-left
returns-in_err-left c =
    rw c.from_residual-in_err-left.ensures (no_left c.args.text.now c.in_ok-front.front.now c.in_ok-front.back.now c.in_ok-front.ensures.0 c.in_ok-front.ensures.1 c.in_err-left.ensures)

pub returns-in_err-right : goal.returns-in_err-right
returns-in_err-right c =
    rw c.from_residual-in_err-right.ensures (no_right c.args.text.now c.in_ok-front.front.now c.in_ok-front.back.now c.in_ok-front.ensures.0 c.in_ok-front.ensures.1 c.in_err-right.ensures)
