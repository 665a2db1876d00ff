-- The points of a block by numbers: the signals in their order, and then the pins in theirs.
use Rattle.std.specs.Prelude.{◌≡◌, ℕ, ◌+◌, List, [], ◌∷◌, length}
use Rattle.std.specs.List.{flat_map}
use Rattle.ato_base.specs.NameTable.{with_names, number_of}
use Rattle.ato_first.specs.declared.first_form.Point.{Point}
use Rattle.ato_first.specs.declared.first_form.Point.TheVariants.{Signal, Pin}
use Rattle.ato_first.specs.declared.first_form.Line.{Line}
use Rattle.ato_first.specs.declared.first_form.Line.TheVariants.{Join}
use Rattle.ato_first.specs.FirstPoints.{signal_names, pin_labels, end_point}
use Rattle.ato_first.specs.declared.first_points.Points.{Points}

-- The points after more of them are declared.
pub record Adds (old new : Points) (more : List Point) : Type 0 where
  pub signals : new.signals ≡ with_names old.signals (signal_names more)
  pub pins : new.pins ≡ with_names old.pins (pin_labels more)

-- the number of a point
abbrev pub point_number : Points → Point → ℕ
point_number points (Signal name) = number_of points.signals name
point_number points (Pin label) = length points.signals + number_of points.pins label

-- the numbers that a line joins
abbrev pub line_joins : Points → Line → List (ℕ × ℕ)
line_joins points (Join left right) = (point_number points (end_point left), point_number points (end_point right)) ∷ []
line_joins points line = []

-- the numbers that lines join, in their order
abbrev pub lines_joins : Points → List Line → List (ℕ × ℕ)
lines_joins points lines = flat_map (line_joins points) lines
