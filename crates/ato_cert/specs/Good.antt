-- Which picks are good. Points are rational values, and no interval arithmetic occurs here.
use Rattle.std.specs.Prelude.{◌≡◌, ℕ, List, [], ◌∷◌, ◌++◌, Option, Some, None}
use Rattle.std.specs.List.{All, Contains}
use Rattle.ato_rational.specs.Rational.{ℚ}
use Rattle.ato_rational.specs.Ranges.{IsWithin}
use Rattle.ato_frac.specs.Fractions.{value_of}
use Rattle.ato_cert.specs.declared.problem.Row.{Row}
use Rattle.ato_cert.specs.declared.problem.Slot.{Slot}
use Rattle.ato_cert.specs.declared.problem.Problem.{Problem}

-- a value that the attribute of a row may have
abbrev pub IsPointOf : Row → ℚ → Type 0
IsPointOf row x = IsWithin (value_of row.low) (value_of row.high) x

-- the slot's check holds at a value
abbrev pub HoldsAt : Slot → ℚ → Type 0
HoldsAt slot x = IsWithin (value_of slot.low) (value_of slot.high) x

-- the check holds at every point of a row
abbrev pub IsGoodRow : Slot → Row → Type 0
IsGoodRow slot row = (x : ℚ) → IsPointOf row x → HoldsAt slot x

-- the number of a candidate at whose every point the check holds
pub record IsGoodNumber (slot : Slot) (number : ℕ) : Type 0 where
  pub row : Row
  pub candidate : Contains slot.rows row
  pub numbered : row.number ≡ number
  pub good : IsGoodRow slot row

abbrev pub IsGoodOf : Option Slot → List ℕ → Type 0
IsGoodOf None [] = Unit {0}
IsGoodOf None (number ∷ more) = ⊥
IsGoodOf (Some slot) [] = ⊥
IsGoodOf (Some slot) (number ∷ []) = IsGoodNumber slot number
IsGoodOf (Some slot) (number ∷ other ∷ more) = ⊥

-- a pick is good where it takes one candidate for the slot, and the check holds at every point of it;
-- where there is no slot, the empty pick is good
abbrev pub IsGood : Problem → List ℕ → Type 0
IsGood problem pick = IsGoodOf problem.slot pick

-- no pick is good
abbrev pub NoGood : Problem → Type 0
NoGood problem = (pick : List ℕ) → ¬ IsGood problem pick

-- the number of the first good row: no row before it is good
pub record IsFirstGoodNumber (slot : Slot) (number : ℕ) : Type 0 where
  pub before : List Row
  pub row : Row
  pub after : List Row
  pub rows_are : slot.rows ≡ before ++ row ∷ after
  pub numbered : row.number ≡ number
  pub good : IsGoodRow slot row
  pub none_before : All (λ other. ¬ IsGoodRow slot other) before

abbrev pub IsFirstGoodOf : Option Slot → List ℕ → Type 0
IsFirstGoodOf None [] = Unit {0}
IsFirstGoodOf None (number ∷ more) = ⊥
IsFirstGoodOf (Some slot) [] = ⊥
IsFirstGoodOf (Some slot) (number ∷ []) = IsFirstGoodNumber slot number
IsFirstGoodOf (Some slot) (number ∷ other ∷ more) = ⊥

-- the pick of the first good row, or the empty pick where there is no slot
abbrev pub IsFirstGood : Problem → List ℕ → Type 0
IsFirstGood problem pick = IsFirstGoodOf problem.slot pick
