-- What the test of a failing check finds on its way.
use Rattle.std.specs.Prelude.{◌≡◌, ◌⊎◌, List, [], Option, Some, None}
use Rattle.std.specs.List.{AllZip}
use Rattle.ato_rational.specs.Rational.{◌≤ℚ◌, ◌<ℚ◌}
use Rattle.ato_frac.specs.declared.fraction.Frac.{Frac}
use Rattle.ato_frac.specs.Fractions.{value_of}
use Rattle.ato_cert.specs.declared.problem.Row.{Row}
use Rattle.ato_cert.specs.declared.problem.Slot.{Slot}
use Rattle.ato_cert.specs.Selection.{IsSelected, IsHull}
use Rattle.ato_check.specs.declared.failing.Hull.{Hull}

-- one of two fractions that is at most both
pub record IsLesser (a b r : Frac) : Type 0 where
  pub one : (r ≡ a) ⊎ (r ≡ b)
  pub first : value_of r ≤ℚ value_of a
  pub second : value_of r ≤ℚ value_of b

-- one of two fractions that is at least both
pub record IsGreater (a b r : Frac) : Type 0 where
  pub one : (r ≡ a) ⊎ (r ≡ b)
  pub first : value_of a ≤ℚ value_of r
  pub second : value_of b ≤ℚ value_of r

-- the hull of some points, if there are any, and one more
abbrev pub Widens : Option Hull → Frac → Hull → Type 0
Widens None point r = (r.least ≡ point) × (r.greatest ≡ point)
Widens (Some hull) point r = IsLesser hull.least point r.least × IsGreater hull.greatest point r.greatest

-- the least and the greatest of the points that t selects in rows
pub record SelectsHull (rows : List Row) (t least greatest : Frac) : Type 0 where
  pub points : List Frac
  pub selected : AllZip (IsSelected t) rows points
  pub hull : IsHull points least greatest

-- the hull of what t selects in rows, or no hull for no row
abbrev pub Spans : List Row → Frac → Option Hull → Type 0
Spans rows t None = rows ≡ []
Spans rows t (Some hull) = SelectsHull rows t hull.least hull.greatest

-- points from least to greatest lie below or above the target
abbrev pub LiesOutside : Slot → Frac → Frac → Type 0
LiesOutside slot least greatest = (value_of greatest <ℚ value_of slot.low) ⊎ (value_of slot.high <ℚ value_of least)
