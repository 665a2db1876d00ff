use Rattle.std.proofs.Common.{arith, sym, ◌+◌, ◌<◌, take}
use Rattle.ato_first.specs.FirstTokens.{digits_value}
use Rattle.ato_first.proofs.Digits.{large_value, value_more}
use Rattle.ato_first.proofs.writing.small_value.Goals as goal

pub returns-then-value-gt65535 : goal.returns-then-value-gt65535
returns-then-value-gt65535 c =
    let more = value_more c.args.digits.now c.loop-digit.digit-index c.loop-digit-test.true in
    let large : 65535 < digits_value (take (c.loop-digit.digit-index + 1) c.args.digits.now) = omega (arith, more, c.loop-digit.invariant.value) in
    sym (large_value c.args.digits.now (c.loop-digit.digit-index + 1) large)
