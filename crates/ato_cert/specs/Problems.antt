-- What problems are well made.
use Rattle.std.specs.Prelude.{ℕ, ◌<◌, ◌≤◌, List, length, Option, Some, None}
use Rattle.std.specs.List.{All, AllPairs}
use Rattle.ato_rational.specs.Rational.{◌≤ℚ◌}
use Rattle.ato_frac.specs.Fractions.{value_of}
use Rattle.ato_cert.specs.declared.problem.Row.{Row}
use Rattle.ato_cert.specs.declared.problem.Slot.{Slot}
use Rattle.ato_cert.specs.declared.problem.Problem.{Problem}

-- the numbers of the rows rise
abbrev pub AreRising : List Row → Type 0
AreRising rows = AllPairs (λ a b. a.number < b.number) rows

-- a slot's row numbers rise, and no range and no target ends below its start
pub record IsWellMadeSlot (slot : Slot) : Type 0 where
  pub rising : AreRising slot.rows
  pub ranges : All (λ row. value_of row.low ≤ℚ value_of row.high) slot.rows
  pub target : value_of slot.low ≤ℚ value_of slot.high

abbrev pub IsWellMadeOf : Option Slot → Type 0
IsWellMadeOf None = Unit {0}
IsWellMadeOf (Some slot) = IsWellMadeSlot slot

-- the slot is well made, if there is one
abbrev pub IsWellMade : Problem → Type 0
IsWellMade problem = IsWellMadeOf problem.slot

abbrev pub HasAtMostOf : ℕ → Option Slot → Type 0
HasAtMostOf n None = Unit {0}
HasAtMostOf n (Some slot) = length slot.rows ≤ n

-- there are at most n candidates
abbrev pub HasAtMost : ℕ → Problem → Type 0
HasAtMost n problem = HasAtMostOf n problem.slot

abbrev pub HasNumbersBelowOf : ℕ → Option Slot → Type 0
HasNumbersBelowOf n None = Unit {0}
HasNumbersBelowOf n (Some slot) = All (λ row. row.number < n) slot.rows

-- the candidates' numbers are below n
abbrev pub HasNumbersBelow : ℕ → Problem → Type 0
HasNumbersBelow n problem = HasNumbersBelowOf n problem.slot
