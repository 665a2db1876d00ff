use Rattle.std.proofs.Common.{◌+◌, ◌*◌, ◌^◌, take}
use Rattle.ato_frac.specs.Numbers.{digits_after}
use Rattle.ato_frac.specs.Trimmed.{IsTooLong}
use Rattle.ato_frac.proofs.Digits.{digits_more, too_long_prefix}
use Rattle.ato_frac.proofs.decimal.trimming.with_digits.Goals as goal

pub returns-in_err-number : goal.returns-in_err-number
returns-in_err-number c =
    let n = c.args.start.significand * 10 ^ c.args.start.zeros in
    let xs = c.args.digits.now in
    let k = c.loop-digit.digit-index in
    let here : IsTooLong (digits_after n (take (k + 1) xs)) =
    rw (digits_more n xs k c.loop-digit-test.true, c.loop-digit.invariant.trimmed.same) c.in_err-number.ensures
    in
    rw c.from_residual.ensures (too_long_prefix n xs (k + 1) c.requires.digits here)
