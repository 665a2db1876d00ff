use Rattle.std.proofs.Common.{arith}
use Rattle.ato_frac.proofs.Trimming.{trimmed_zero, too_long_digit}
use Rattle.ato_frac.proofs.decimal.trimming.with_digit.Goals as goal

pub returns-in_err-significand : goal.returns-in_err-significand
returns-in_err-significand c =
    rw c.from_residual.ensures (too_long_digit _ c.args.digit c.requires.digit c.if-digit-ne0.true c.in_err-significand.ensures)

pub returns : goal.returns
returns c =
    rw c.if-digit-ne0.false
    (trimmed_zero _ c.args.number.significand c.args.number.zeros c.if-number-eq0.false c.requires.trimmed, c.requires.small, omega arith)
