use Rattle.std.proofs.Common.{◌≡◌, ◌≤◌, take}
use Rattle.ato_frac.specs.Numbers.{digits_value}
use Rattle.ato_lexer.proofs.numbers.small_of.Given as goal

abbrev pub invariant-loop-digit : goal.invariant-loop-digit
invariant-loop-digit l = record { value : l.value ≡ digits_value (take l.digit-index l.digits); small : l.value ≤ 65535 }
