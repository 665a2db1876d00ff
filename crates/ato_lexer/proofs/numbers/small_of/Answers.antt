use Rattle.std.proofs.Common.{arith, sym, ◌+◌, ◌<◌, take}
use Rattle.ato_frac.specs.Numbers.{digits_value}
use Rattle.ato_frac.proofs.Digits.{digits_more}
use Rattle.ato_lexer.proofs.NumberLemmas.{large_value}
use Rattle.ato_lexer.proofs.numbers.small_of.Goals as goal

pub returns-then-value-gt65535 : goal.returns-then-value-gt65535
returns-then-value-gt65535 c =
    let more = digits_more 0 c.args.digits.now c.loop-digit.digit-index c.loop-digit-test.true in
    let large : 65535 < digits_value (take (c.loop-digit.digit-index + 1) c.args.digits.now) = omega (arith, more, c.loop-digit.invariant.value) in
    sym (large_value c.args.digits.now (c.loop-digit.digit-index + 1) large)
