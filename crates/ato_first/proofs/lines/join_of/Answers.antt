use Rattle.ato_first.specs.FirstForm.{end_text}
use Rattle.ato_first.proofs.FirstFormLemmas.{end_no_tilde, no_left_end, no_right_end}
use Rattle.ato_first.proofs.lines.join_of.Goals as goal

pub returns-in_err-left : goal.returns-in_err-left
returns-in_err-left c =
    rw c.from_residual.ensures (λ left right is_left is_right e. c.in_err-left.ensures (end_text left) (end_text right) (end_no_tilde left is_left) e)

pub returns-in_err-end_of : goal.returns-in_err-end_of
returns-in_err-end_of c =
    rw c.from_residual-in_err-end_of.ensures (no_left_end c.args.text.now c.in_ok-left.left.now c.in_ok-left.right.now c.in_ok-left.ensures.0 c.in_ok-left.ensures.1 c.in_err-end_of.ensures)

pub returns-in_err-end_of-2 : goal.returns-in_err-end_of-2
returns-in_err-end_of-2 c =
    rw c.from_residual-in_err-end_of-2.ensures (no_right_end c.args.text.now c.in_ok-left.left.now c.in_ok-left.right.now c.in_ok-left.ensures.0 c.in_ok-left.ensures.1 c.in_err-end_of-2.ensures)
