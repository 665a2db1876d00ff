use Rattle.std.proofs.Common.{◌≡◌, pos, ◌+ℤ◌, neg_ℤ, arith}
use Rattle.ato_frac.specs.Numbers.{power_of}
use Rattle.ato_frac.proofs.Readable.{parts_of, long_refused, zero_read, far_refused, scaled_read}
use Rattle.ato_frac.proofs.decimal.value.fraction_of.Goals as goal

pub returns-in_err-number : goal.returns-in_err-number
returns-in_err-number c =
    let long = c.in_err-number.ensures in
    rw c.from_residual.ensures (long_refused (parts_of c.args.whole.now c.args.fraction.now c.args.negative c.args.exponent.now) long.m long.zeros long.trimmed long.large)

pub returns-then-number-eq0 : goal.returns-then-number-eq0
returns-then-number-eq0 c =
    zero_read (parts_of c.args.whole.now c.args.fraction.now c.args.negative c.args.exponent.now) c.in_ok-number.number.significand c.in_ok-number.number.zeros c.in_ok-number.ensures.0 c.zero.result c.if-number-eq0.true c.zero.ensures

pub returns-in_err-size : goal.returns-in_err-size
returns-in_err-size c =
    let few = c.in_ok-number.ensures.2 in
    let fits = c.requires.length in
    rw c.from_residual-in_err-size.ensures
    (far_refused (parts_of c.args.whole.now c.args.fraction.now c.args.negative c.args.exponent.now) c.in_ok-number.number.significand c.in_ok-number.number.zeros c.in_ok-number.ensures.0 c.if-number-eq0.false c.in_err-size.ensures (omega arith) (omega arith))

pub returns : goal.returns
returns c =
    let parts = parts_of c.args.whole.now c.args.fraction.now c.args.negative c.args.exponent.now in
    let e = pos c.powers-up.result.0 +ℤ neg_ℤ (pos c.powers-up.result.1) in
    let e_is : e ≡ power_of parts +ℤ pos c.in_ok-number.number.zeros = rw c.in_ok-size.ensures at c.powers-up.ensures in
    scaled_read parts c.in_ok-number.number.significand c.in_ok-number.number.zeros c.in_ok-number.ensures.0 e c.if-number-eq0.false e_is c.scaled.result c.in_ok-number.ensures.1 c.scaled.ensures
