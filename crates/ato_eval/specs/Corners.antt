-- Ranges of which some are narrowed to one of their ends.
use Rattle.std.specs.Prelude.{List, [], ◌∷◌, Bool, cond}
use Rattle.ato_frac.specs.declared.fraction.Frac.{Frac}
use Rattle.ato_interval.specs.Ends.{Ends}
use Rattle.ato_interval.specs.Points.{point}

-- the first ranges narrowed to the ends that are named, high or low, and the others as they are
abbrev pub narrowed : List (Ends Frac) → List Bool → List (Ends Frac)
narrowed [] high = []
narrowed (range ∷ ranges) [] = range ∷ ranges
narrowed (range ∷ ranges) (h ∷ high) = point (cond h range.high range.low) ∷ narrowed ranges high
