use Rattle.std.proofs.Common.{◌≡◌, take}
use Rattle.ato_frac.specs.Numbers.{digits_value}
use Rattle.ato_frac.proofs.decimal.value.exponent_size.Given as goal

abbrev pub invariant-loop-digit : goal.invariant-loop-digit
invariant-loop-digit l = l.size ≡ digits_value (take l.digit-index l.digits)
