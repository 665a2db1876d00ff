use Rattle.std.proofs.Common.{◌+◌, arith}
use Rattle.ato_frac.proofs.Digits.{digits_more, prefix_grows}
use Rattle.ato_frac.proofs.decimal.value.exponent_size.Goals as goal

pub returns-in_err-size : goal.returns-in_err-size
returns-in_err-size c =
    let xs = c.args.digits.now in
    let k = c.loop-digit.digit-index in
    rw c.from_residual.ensures
    (omega (arith, digits_more 0 xs k c.loop-digit-test.true, c.loop-digit.invariant, c.in_err-size.ensures, prefix_grows 0 xs (k + 1)))
