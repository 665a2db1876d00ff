use Rattle.std.proofs.Common.{rules, arith}
use Rattle.ato_frac.proofs.Trimming.{large_shift, wide_product, wide_sum, next_is}
use Rattle.ato_frac.proofs.decimal.trimming.after_digit.Goals as goal

pub returns-then-number-gt37 : goal.returns-then-number-gt37
returns-then-number-gt37 c =
    large_shift _ c.args.number.significand c.args.number.zeros c.args.digit c.requires.trimmed (search rules)

pub returns-in_err-checked_mul : goal.returns-in_err-checked_mul
returns-in_err-checked_mul c =
    rw c.from_residual.ensures
    (wide_product c.args.number.significand c.args.number.zeros _ c.args.digit c.power_of_ten-shift.ensures.value c.in_err-checked_mul.ensures)

pub returns-in_err-significand : goal.returns-in_err-significand
returns-in_err-significand c =
    rw c.from_residual-in_err-significand.ensures
    (wide_sum c.args.number.significand c.args.number.zeros _ c.in_ok-checked_mul.field-0 c.args.digit c.power_of_ten-shift.ensures.value (c.in_ok-checked_mul.ensures.1) c.in_err-significand.ensures)

pub returns-then-significand-lt-LIMIT : goal.returns-then-significand-lt-LIMIT
returns-then-significand-lt-LIMIT c =
    (next_is c.args.number.significand c.args.number.zeros _ c.in_ok-checked_mul.field-0 c.args.digit _ c.power_of_ten-shift.ensures.value (c.in_ok-checked_mul.ensures.1) (c.in_ok-significand.ensures.1), c.if-significand-lt-LIMIT.true)

pub returns-else-significand-lt-LIMIT : goal.returns-else-significand-lt-LIMIT
returns-else-significand-lt-LIMIT c =
    omega (
      arith,
      next_is c.args.number.significand c.args.number.zeros _ c.in_ok-checked_mul.field-0 c.args.digit _ c.power_of_ten-shift.ensures.value (c.in_ok-checked_mul.ensures.1) (c.in_ok-significand.ensures.1),
    )
