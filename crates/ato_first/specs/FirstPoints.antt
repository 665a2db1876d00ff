-- The points of a block of the first form, which of them are joined, and the first name that is no signal or attribute.
use Rattle.std.specs.Prelude.{◌≡◌, ℕ, Bool, true, false, ◌||◌, not, List, [], ◌∷◌, ◌++◌, length, Contains, Option, Some, None}
use Rattle.std.specs.List.{list_any, flat_map}
use Rattle.std.specs.Str.{bytes_eq}
use Rattle.ato_base.specs.Joined.{Joined}
use Rattle.ato_nets.specs.Distinct.{distinct}
use Rattle.ato_first.specs.FirstForm.{lined, head_text, lines_text}
use Rattle.ato_first.specs.declared.first_form.Point.{Point}
use Rattle.ato_first.specs.declared.first_form.Point.TheVariants.{Signal, Pin}
use Rattle.ato_first.specs.declared.first_form.End.{End}
use Rattle.ato_first.specs.declared.first_form.End.TheVariants.{Name, Declared}
use Rattle.ato_first.specs.declared.first_form.Line.{Line}
use Rattle.ato_first.specs.declared.first_form.Line.TheVariants.{Declaration, Join, Assertion}
use Rattle.ato_first.specs.PartLines.{attribute_of}
use Rattle.ato_first.specs.declared.first_form.Block.{Block}

-- the points that are declared, in their order
abbrev pub end_points : End → List Point
end_points (Name name) = []
end_points (Declared point) = point ∷ []

abbrev pub line_points : Line → List Point
line_points (Declaration point) = point ∷ []
line_points (Join left right) = end_points left ++ end_points right
line_points line = []

abbrev pub lines_points : List Line → List Point
lines_points lines = flat_map line_points lines

-- the names of the signals and the labels of the pins among points
abbrev pub signal_names : List Point → List (List ℕ)
signal_names [] = []
signal_names (Signal name ∷ points) = name ∷ signal_names points
signal_names (Pin label ∷ points) = signal_names points

abbrev pub pin_labels : List Point → List (List ℕ)
pin_labels [] = []
pin_labels (Signal name ∷ points) = pin_labels points
pin_labels (Pin label ∷ points) = label ∷ pin_labels points

-- The signals and the pins of a block, in the order of their first declarations: a repeated declaration names the
-- same point.
abbrev pub signals_of : Block → List (List ℕ)
signals_of block = distinct (signal_names (lines_points block.lines))

abbrev pub pins_of : Block → List (List ℕ)
pins_of block = distinct (pin_labels (lines_points block.lines))

-- the point that an end stands for
abbrev pub end_point : End → Point
end_point (Name name) = Signal name
end_point (Declared point) = point

-- A line of the block joins the two points, the first on its left.
abbrev pub IsJoinedByLine : Block → Point → Point → Type 0
IsJoinedByLine block p q = (left right : End) × Contains block.lines (Join left right) × (p ≡ end_point left) × (q ≡ end_point right)

-- A chain of the block's lines joins the two points, or they are the same.
abbrev pub AreJoined : Block → Point → Point → Type 0
AreJoined block p q = Joined (IsJoinedByLine block) p q

-- No such text is there.
abbrev pub is_absent : List (List ℕ) → List ℕ → Bool
is_absent texts text = not (list_any (bytes_eq text) texts)

-- The text is another one, or there is none.
abbrev pub is_other : Option (List ℕ) → List ℕ → Bool
is_other None text = true
is_other (Some name) text = not (bytes_eq name text)

-- The end is a name that is no signal.
abbrev pub is_unknown_end : List (List ℕ) → End → Bool
is_unknown_end signals (Name name) = is_absent signals name
is_unknown_end signals (Declared point) = false

-- An end of the line is a name that is no signal, or the line asserts something of a name that is not the attribute.
abbrev pub is_unknown : List (List ℕ) → Option (List ℕ) → Line → Bool
is_unknown signals attribute (Join left right) = is_unknown_end signals left || is_unknown_end signals right
is_unknown signals attribute (Assertion asserted) = is_other attribute asserted.name
is_unknown signals attribute line = false

-- A line of the block mentions a name that is not known there.
abbrev pub is_unknown_in : Block → Line → Bool
is_unknown_in block = is_unknown (signals_of block) (attribute_of block.lines)

-- Every name that the lines mention is known.
abbrev pub AreKnown : Block → Type 0
AreKnown block = list_any (is_unknown_in block) block.lines ≡ false

-- The first line that passes the test begins at this byte.
abbrev pub IsFirstLineAt : (Line → Bool) → Block → ℕ → Type 0
IsFirstLineAt test block at =
    (front : List Line) × (line : Line) × (back : List Line) × (block.lines ≡ front ++ line ∷ back)
    × (list_any test front ≡ false) × (test line ≡ true) × (at ≡ length (lined (head_text block.name) ++ lines_text front))

-- The first line with a name that is not known begins at this byte.
abbrev pub IsUnknownAt : Block → ℕ → Type 0
IsUnknownAt block at = IsFirstLineAt (is_unknown_in block) block at
