-- The three lines of a block that describe its part: its kind, an attribute, and what is asserted of an
-- attribute (docs/LANGUAGE.md). It goes once whole files are read.
use Rattle.std.specs.Prelude.{◌≡◌, ℕ, ◌≤◌, Bool, false, ◌&&◌, ◌||◌, not, List, [], ◌∷◌, ◌++◌, length, Option, Some, None, is_some, is_none}
use Rattle.std.specs.List.{list_any, filter_map, flat_map, slice_get, take_while}
use Rattle.std.specs.Str.{bytes_eq}
use Rattle.ato_first.specs.declared.first_form.Line.{Line}
use Rattle.ato_first.specs.declared.first_form.Line.TheVariants as lines
use Rattle.ato_first.specs.declared.first_form.Point.{Point}
use Rattle.ato_first.specs.declared.first_form.Point.TheVariants.{Signal, Pin}
use Rattle.ato_first.specs.declared.first_form.End.{End}
use Rattle.ato_first.specs.declared.first_form.End.TheVariants.{Name, Declared}
use Rattle.ato_first.specs.declared.first_form.Assertion.{Assertion}
use Rattle.ato_first.specs.declared.first_form.Block.{Block}

-- the kind that a line states
abbrev pub kind_in : Line → Option (List ℕ)
kind_in (lines.Kind text) = Some text
kind_in _ = None

-- the attribute that a line declares
abbrev pub attribute_in : Line → Option (List ℕ)
attribute_in (lines.Attribute name) = Some name
attribute_in _ = None

-- what a line asserts
abbrev pub assertion_in : Line → Option Assertion
assertion_in (lines.Assertion assertion) = Some assertion
assertion_in _ = None

-- all that lines say, in their order
abbrev pub kinds_of : List Line → List (List ℕ)
kinds_of lines = filter_map kind_in lines

abbrev pub attributes_of : List Line → List (List ℕ)
attributes_of lines = filter_map attribute_in lines

abbrev pub assertions_of : List Line → List Assertion
assertions_of lines = filter_map assertion_in lines

-- Each of the three stands at most once.
pub record AreOnce (lines : List Line) : Type 0 where
  pub kinds : length (kinds_of lines) ≤ 1
  pub attributes : length (attributes_of lines) ≤ 1
  pub assertions : length (assertions_of lines) ≤ 1

-- the one of each, if it stands
abbrev pub kind_of : List Line → Option (List ℕ)
kind_of lines = slice_get (kinds_of lines) 0

abbrev pub attribute_of : List Line → Option (List ℕ)
attribute_of lines = slice_get (attributes_of lines) 0

abbrev pub assertion_of : List Line → Option Assertion
assertion_of lines = slice_get (assertions_of lines) 0

-- the lines before the first that declares an attribute
abbrev pub before_attribute : List Line → List Line
before_attribute lines = take_while (λ line. is_none (attribute_in line)) lines

-- Some of the three stand, but not all.
abbrev pub is_partial : List Line → Bool
is_partial lines =
    (is_some (kind_of lines) || is_some (attribute_of lines) || is_some (assertion_of lines))
    && not (is_some (kind_of lines) && is_some (attribute_of lines) && is_some (assertion_of lines))

-- the names of the signals that lines declare, alone or at an end of a join
abbrev pub point_signals : Point → List (List ℕ)
point_signals (Signal name) = name ∷ []
point_signals (Pin label) = []

abbrev pub end_signals : End → List (List ℕ)
end_signals (Name name) = []
end_signals (Declared point) = point_signals point

abbrev pub line_signals : Line → List (List ℕ)
line_signals (lines.Declaration point) = point_signals point
line_signals (lines.Join left right) = end_signals left ++ end_signals right
line_signals _ = []

abbrev pub declared_signals : List Line → List (List ℕ)
declared_signals lines = flat_map line_signals lines

-- A name is that of a signal which one of the lines declares.
abbrev pub is_signal : List Line → List ℕ → Bool
is_signal lines name = list_any (bytes_eq name) (declared_signals lines)

-- An attribute that the lines declare is a signal too.
abbrev pub is_attribute_signal : List Line → Bool
is_attribute_signal lines = list_any (is_signal lines) (attributes_of lines)

-- The block describes a part: it states its kind, declares an attribute that is no signal, and asserts.
abbrev pub HasPart : Block → Type 0
HasPart block =
    (kind attribute : List ℕ) × (assertion : Assertion) × (kind_of block.lines ≡ Some kind) × (attribute_of block.lines ≡ Some attribute)
    × (assertion_of block.lines ≡ Some assertion) × (is_signal block.lines attribute ≡ false)

-- The block describes none: it has none of the three lines.
abbrev pub IsPartless : Block → Type 0
IsPartless block = (kind_of block.lines ≡ None) × (attribute_of block.lines ≡ None) × (assertion_of block.lines ≡ None)
