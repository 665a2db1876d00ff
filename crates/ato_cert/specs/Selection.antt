-- The points that a fraction selects in the ranges of rows, and their hull.
use Rattle.std.specs.Prelude.{◌≡◌, ◌⊎◌, ◌<◌, List, length}
use Rattle.std.specs.List.{All, AllZip, Contains}
use Rattle.ato_rational.specs.Rational.{◌≈ℚ◌, ◌≤ℚ◌, ◌<ℚ◌, ◌+ℚ◌, ◌-ℚ◌, ◌*ℚ◌, zero_ℚ, one_ℚ}
use Rattle.ato_rational.specs.Ranges.{IsWithin}
use Rattle.ato_frac.specs.declared.fraction.Frac.{Frac}
use Rattle.ato_frac.specs.Fractions.{value_of, CanAdd, CanSubtract, CanMultiply}
use Rattle.ato_cert.specs.declared.problem.Row.{Row}
use Rattle.ato_cert.specs.declared.problem.Slot.{Slot}

-- low + t·(high - low) by the operations on fractions, of which none is refused
pub record IsBetween (t : Frac) (row : Row) (point : Frac) : Type 0 where
  pub width : Frac
  pub part : Frac
  pub can_subtract : CanSubtract row.high row.low
  pub width_is : value_of width ≈ℚ value_of row.high -ℚ value_of row.low
  pub can_multiply : CanMultiply t width
  pub part_is : value_of part ≈ℚ value_of t *ℚ value_of width
  pub can_add : CanAdd row.low part
  pub point_is : value_of point ≈ℚ value_of row.low +ℚ value_of part

-- the point of a row's range that t selects: its low end for 0 and its high end for 1, without an operation
pub data IsSelected (t : Frac) (row : Row) (point : Frac) : Type 0 where
  at_low : value_of t ≈ℚ zero_ℚ → point ≡ row.low → IsSelected t row point
  at_high : value_of t ≈ℚ one_ℚ → point ≡ row.high → IsSelected t row point
  between : zero_ℚ <ℚ value_of t → value_of t <ℚ one_ℚ → IsBetween t row point → IsSelected t row point

-- the least and the greatest of some points
pub record IsHull (points : List Frac) (least greatest : Frac) : Type 0 where
  pub has_least : Contains points least
  pub has_greatest : Contains points greatest
  pub above : All (λ point. value_of least ≤ℚ value_of point) points
  pub below : All (λ point. value_of point ≤ℚ value_of greatest) points

-- a slot's check fails at the points that t, from 0 to 1, selects in rows: there is a row, and the points' hull
-- lies below or above the target
pub record FailsAt (slot : Slot) (rows : List Row) (t : Frac) : Type 0 where
  pub some : 0 < length rows
  pub fraction : IsWithin zero_ℚ one_ℚ (value_of t)
  pub points : List Frac
  pub selected : AllZip (IsSelected t) rows points
  pub least : Frac
  pub greatest : Frac
  pub hull : IsHull points least greatest
  pub outside : (value_of greatest <ℚ value_of slot.low) ⊎ (value_of slot.high <ℚ value_of least)
