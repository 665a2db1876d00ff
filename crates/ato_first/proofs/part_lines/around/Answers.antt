use Rattle.ato_first.proofs.PartLineLemmas.{no_word}
use Rattle.ato_first.proofs.part_lines.around.Goals as goal

pub returns-in_err-right : goal.returns-in_err-right
returns-in_err-right c =
    rw c.from_residual-in_err-right.ensures (no_word c.args.text.now c.in_ok-left.left.now c.in_ok-left.rest.now c.args.word.now c.in_ok-left.ensures.0 c.in_ok-left.ensures.1 c.in_err-right.ensures)
