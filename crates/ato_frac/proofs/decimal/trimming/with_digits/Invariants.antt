use Rattle.std.proofs.Common.{ℕ, ◌+◌, ◌*◌, ◌^◌, ◌<◌, ◌≤◌, take}
use Rattle.ato_frac.specs.Numbers.{digits_after}
use Rattle.ato_frac.specs.Trimmed.{IsTrimmed}
use Rattle.ato_frac.proofs.decimal.trimming.with_digits.Given as goal

pub record IsReadTo (n zeros_before read m zeros : ℕ) : Type 0 where
  pub trimmed : IsTrimmed n m zeros
  pub small : m < 2 ^ 127
  pub few : zeros ≤ zeros_before + read

abbrev pub invariant-loop-digit : goal.invariant-loop-digit
invariant-loop-digit l =
    IsReadTo (digits_after (l.fn.start.significand * 10 ^ l.fn.start.zeros) (take l.digit-index l.digits)) l.fn.start.zeros l.digit-index l.number.significand l.number.zeros
