-- What the readers of lines and the writers of tokens hand to each other.
use Rattle.std.specs.Prelude.{◌≡◌, ℕ, ◌+◌, true, false, List, ◌++◌, length, codes, All, Option, Some, None, is_some}
use Rattle.std.specs.List.{list_all}
use Rattle.ato_base.specs.declared.places.FileId.{FileId}
use Rattle.ato_base.specs.declared.tokens.Token.{Token}
use Rattle.ato_first.specs.FirstForm.{is_ascii_name, is_short_number, is_kind_text, is_attribute_name, is_line, point_text, end_text, lines_text, NoNext}
use Rattle.ato_first.specs.PartLines.{before_attribute, kind_of, attribute_of, AreOnce}
use Rattle.ato_first.specs.PartLines as parts
use Rattle.ato_first.specs.FirstTokens.{line_names, lines_tokens}
use Rattle.ato_base.specs.NameTable.{IsHeld}
use Rattle.ato_first.specs.declared.first_form.Point.{Point}
use Rattle.ato_first.specs.declared.first_form.Point.TheVariants as points
use Rattle.ato_first.specs.declared.first_form.End.{End}
use Rattle.ato_first.specs.declared.first_form.End.TheVariants as ends
use Rattle.ato_first.specs.declared.first_form.Line.{Line}
use Rattle.ato_first.specs.declared.first_form.Line.TheVariants as lines
use Rattle.ato_first.specs.declared.fronts.Declared as attributes
use Rattle.ato_first.specs.declared.fronts.Found.{Found}
use Rattle.ato_first.specs.declared.statements.PointText.{PointText}
use Rattle.ato_first.specs.declared.statements.PointText.TheVariants.{Signal, NamedPin, NumberedPin}
use Rattle.ato_first.specs.declared.statements.EndText.{EndText}
use Rattle.ato_first.specs.declared.statements.EndText.TheVariants.{Name, Declared}
use Rattle.ato_first.specs.declared.statements.Statement.{Statement}
use Rattle.ato_first.specs.declared.statements.Statement.TheVariants.{Pass, Declaration, Join, Kind, Attribute, Assertion}
use Rattle.ato_first.specs.declared.statements.AssertionText.{AssertionText}
use Rattle.ato_first.specs.declared.first_form.Assertion as asserted

-- the point that is read
abbrev pub read_point : PointText → Point
read_point (Signal name) = points.Signal name.now
read_point (NamedPin label) = points.Pin label.now
read_point (NumberedPin digits) = points.Pin digits.now

-- the end that is read
abbrev pub read_end : EndText → End
read_end (Name name) = ends.Name name.now
read_end (Declared point) = ends.Declared (read_point point)

-- the assertion that is read
abbrev pub read_assertion : AssertionText → asserted.Assertion
read_assertion a = record { name = a.name.now; low = a.low.now; high = a.high.now }

-- the line that a statement is read from
abbrev pub read_line : Statement → Line
read_line Pass = lines.Pass
read_line (Declaration point) = lines.Declaration (read_point point)
read_line (Join left right) = lines.Join (read_end left) (read_end right)
read_line (Kind text) = lines.Kind text.now
read_line (Attribute name) = lines.Attribute name.now
read_line (Assertion a) = lines.Assertion (read_assertion a)

-- The name or label is of the form, and the kind of label is the right one.
abbrev pub IsPointText : PointText → Type 0
IsPointText (Signal name) = is_ascii_name name.now ≡ true
IsPointText (NamedPin label) = is_ascii_name label.now ≡ true
IsPointText (NumberedPin digits) = (is_ascii_name digits.now ≡ false) × (is_short_number digits.now ≡ true)

abbrev pub IsEndText : EndText → Type 0
IsEndText (Name name) = is_ascii_name name.now ≡ true
IsEndText (Declared point) = IsPointText point

pub record IsAssertionText (a : AssertionText) : Type 0 where
  pub name : is_ascii_name a.name.now ≡ true
  pub low : is_short_number a.low.now ≡ true
  pub high : is_short_number a.high.now ≡ true

abbrev pub IsStatement : Statement → Type 0
IsStatement Pass = Unit {0}
IsStatement (Declaration point) = IsPointText point
IsStatement (Join left right) = IsEndText left × IsEndText right
IsStatement (Kind text) = is_kind_text text.now ≡ true
IsStatement (Attribute name) = is_attribute_name name.now ≡ true
IsStatement (Assertion a) = IsAssertionText a

-- two texts with the sign of a join between them
abbrev pub with_tilde : List ℕ → List ℕ → List ℕ
with_tilde left right = left ++ (codes " ~ " ++ right)

-- a line of the block behind its indentation
abbrev pub words_text : Line → List ℕ
words_text lines.Pass = codes "pass"
words_text (lines.Declaration point) = point_text point
words_text (lines.Join left right) = with_tilde (end_text left) (end_text right)
words_text (lines.Kind text) = codes "kind = \"" ++ (text ++ codes "\"")
words_text (lines.Attribute name) = name ++ codes ": dimensionless"
words_text (lines.Assertion a) = codes "assert " ++ (a.name ++ (codes " within " ++ (a.low ++ (codes " to " ++ a.high))))

-- the attribute that was found among lines, of which the first is at a place of the file
abbrev pub IsDeclared : Option attributes.Declared → ℕ → List Line → Type 0
IsDeclared None place lines = attribute_of lines ≡ None
IsDeclared (Some found) place lines =
    (attribute_of lines ≡ Some found.name.now)
    × (found.at ≡ place + length (lines_text (before_attribute lines)))

-- These of a part's lines stand among lines, of which the first is at a place of the file.
pub record IsFound (found : Found) (place : ℕ) (lines : List Line) : Type 0 where
  pub kind : found.kind ≡ is_some (kind_of lines)
  pub attribute : IsDeclared found.attribute place lines
  pub assertion : found.assertion ≡ is_some (parts.assertion_of lines)

-- Some lines were read from the front of the bytes, of which the first is at a place of the file, and
-- their tokens were put behind others.
pub record AreRead (file : FileId) (at : ℕ) (bytes rest : List ℕ) (names : List (List ℕ)) (before tokens : List Token) (lines : List Line) : Type 0 where
  pub text : bytes ≡ lines_text lines ++ rest
  pub are_lines : list_all is_line lines ≡ true
  pub tokens_are : tokens ≡ before ++ lines_tokens names file at lines
  pub held : All (λ line. All (IsHeld names) (line_names line)) lines

-- They are all lines that follow one another in the form, and what was found among them is right.
pub record IsWholeFront (place : ℕ) (all : Found) (rest : List ℕ) (lines : List Line) : Type 0 where
  pub once : AreOnce lines
  pub found : IsFound all place lines
  pub none : NoNext lines rest
