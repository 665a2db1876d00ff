use Rattle.ato_frac.proofs.Digits.{too_long_append}
use Rattle.ato_frac.proofs.decimal.value.significand.Goals as goal

pub returns-in_err-front : goal.returns-in_err-front
returns-in_err-front c =
    rw c.from_residual.ensures (too_long_append 0 c.args.whole.now c.args.fraction.now c.requires.fraction c.in_err-front.ensures)
