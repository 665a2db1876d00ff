-- The ends of intervals, in an order that says which of them is wanted.
use Rattle.std.specs.Prelude.{◌≡◌, ℕ, Bool, true, false, List, Some, slice_get}
use Rattle.ato_frac.specs.declared.fraction.Frac.{Frac}
use Rattle.ato_frac.specs.Fractions.{value_of}
use Rattle.ato_interval.specs.Ends.{Ends, IsProper}

-- the ends of an interval, the one that is wanted first
abbrev pub turned : Bool → Ends Frac → Frac × Frac
turned true a = (a.high, a.low)
turned false a = (a.low, a.high)

-- the interval is kept for the node, with its high end wanted or its low one
pub record IsWanted (ends : List (Frac × Frac)) (node : ℕ) (a : Ends Frac) (is_high : Bool) : Type 0 where
  pub kept : slice_get ends node ≡ Some (turned is_high a)
  pub proper : IsProper value_of a
