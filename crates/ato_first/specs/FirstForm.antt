-- The first form of a source file, line by line (docs/LANGUAGE.md). It goes once whole files are read.
use Rattle.std.specs.Prelude.{◌≡◌, ℕ, ◌<◌, Bool, true, false, ◌&&◌, ◌||◌, not, ◌==◌, nat_le, if◌then◌else◌, List, [], ◌∷◌, ◌++◌, length, codes, Option, Some, None, ◌⊎◌}
use Rattle.std.specs.List.{list_all, list_any, flat_map}
use Rattle.std.specs.Str.{bytes_eq}
use Rattle.ato_base.specs.Keywords.{is_keyword}
use Rattle.ato_first.specs.PartLines.{AreOnce, before_attribute, is_partial, is_attribute_signal, HasPart, IsPartless}
use Rattle.ato_first.specs.declared.first_form.Line.{Line}
use Rattle.ato_first.specs.declared.first_form.Line.TheVariants.{Pass, Declaration, Join, Kind, Attribute, Assertion}
use Rattle.ato_first.specs.declared.first_form.Point.{Point}
use Rattle.ato_first.specs.declared.first_form.Point.TheVariants.{Signal, Pin}
use Rattle.ato_first.specs.declared.first_form.End.{End}
use Rattle.ato_first.specs.declared.first_form.End.TheVariants.{Name, Declared}
use Rattle.ato_first.specs.declared.first_form.Block.{Block}

-- an ASCII digit
abbrev pub is_digit : ℕ → Bool
is_digit b = nat_le 48 b && nat_le b 57

-- an ASCII letter or `_`
abbrev pub is_letter : ℕ → Bool
is_letter b = (nat_le 65 b && nat_le b 90) || (nat_le 97 b && nat_le b 122) || (b == 95)

-- an ASCII letter, digit or `_`
abbrev pub is_name_byte : ℕ → Bool
is_name_byte b = is_letter b || is_digit b

abbrev pub starts_with_letter : List ℕ → Bool
starts_with_letter [] = false
starts_with_letter (b ∷ bs) = is_letter b

-- A name of the form: ASCII letters, digits and `_`, no digit first, and no keyword.
abbrev pub is_ascii_name : List ℕ → Bool
is_ascii_name text = starts_with_letter text && list_all is_name_byte text && not (is_keyword text)

-- A number of the form: 1 to 18 digits.
abbrev pub is_short_number : List ℕ → Bool
is_short_number text = nat_le 1 (length text) && nat_le (length text) 18 && list_all is_digit text

-- A pin's label is a name or a number.
abbrev pub is_label : List ℕ → Bool
is_label text = is_ascii_name text || is_short_number text

-- The text of a kind: one or more ASCII letters and digits.
abbrev pub is_kind_byte : ℕ → Bool
is_kind_byte b = is_name_byte b && not (b == 95)

abbrev pub is_kind_text : List ℕ → Bool
is_kind_text text = nat_le 1 (length text) && list_all is_kind_byte text

-- the names that a part's columns and settings have
abbrev pub reserved_names : List (List ℕ)
reserved_names = codes "kind" ∷ codes "part" ∷ codes "package" ∷ codes "footprint" ∷ codes "price" ∷ codes "designator_prefix" ∷ []

-- An attribute has a name of the form, and none of those.
abbrev pub is_attribute_name : List ℕ → Bool
is_attribute_name text = is_ascii_name text && not (list_any (bytes_eq text) reserved_names)

-- a text and its line end
abbrev pub lined : List ℕ → List ℕ
lined text = text ++ 10 ∷ []

-- a point where it is declared
abbrev pub point_text : Point → List ℕ
point_text (Signal name) = codes "signal " ++ name
point_text (Pin label) = codes "pin " ++ label

-- an end of a join
abbrev pub end_text : End → List ℕ
end_text (Name name) = name
end_text (Declared point) = point_text point

-- a line of the block, without its line end
abbrev pub line_text : Line → List ℕ
line_text Pass = codes "    pass"
line_text (Declaration point) = codes "    " ++ point_text point
line_text (Join left right) = codes "    " ++ (end_text left ++ (codes " ~ " ++ end_text right))
line_text (Kind text) = codes "    kind = \"" ++ (text ++ codes "\"")
line_text (Attribute name) = codes "    " ++ (name ++ codes ": dimensionless")
line_text (Assertion a) = codes "    assert " ++ (a.name ++ (codes " within " ++ (a.low ++ (codes " to " ++ a.high))))

-- The names and labels are those of the form.
abbrev pub is_point : Point → Bool
is_point (Signal name) = is_ascii_name name
is_point (Pin label) = is_label label

abbrev pub is_end : End → Bool
is_end (Name name) = is_ascii_name name
is_end (Declared point) = is_point point

abbrev pub is_line : Line → Bool
is_line Pass = true
is_line (Declaration point) = is_point point
is_line (Join left right) = is_end left && is_end right
is_line (Kind text) = is_kind_text text
is_line (Attribute name) = is_attribute_name name
is_line (Assertion a) = is_ascii_name a.name && is_short_number a.low && is_short_number a.high

-- the first line, without its line end
abbrev pub head_text : List ℕ → List ℕ
head_text name = codes "component " ++ (name ++ codes ":")

-- lines with their line ends
abbrev pub lines_text : List Line → List ℕ
lines_text lines = flat_map (λ line. lined (line_text line)) lines

-- the first line and the lines of the block
abbrev pub block_text : Block → List ℕ
block_text block = lined (head_text block.name) ++ lines_text block.lines

-- The name of the block and each of its lines are those of the form. It may still lack lines.
pub record IsFront (block : Block) : Type 0 where
  pub name : is_ascii_name block.name ≡ true
  pub lines : list_all is_line block.lines ≡ true
  pub once : AreOnce block.lines

-- The bytes are a file of the form: none at all, or one block with at least one line, which describes a
-- part or does not.
abbrev pub IsFile : List ℕ → Option Block → Type 0
IsFile bytes None = bytes ≡ []
IsFile bytes (Some block) = (bytes ≡ block_text block) × IsFront block × (0 < length block.lines) × (HasPart block ⊎ IsPartless block)

-- No first line of the form stands at the front of the bytes.
abbrev pub NoHead : List ℕ → Type 0
NoHead bytes = (name rest : List ℕ) → is_ascii_name name ≡ true → bytes ≡ lined (head_text name) ++ rest → ⊥

-- No line of a block stands at the front of the bytes.
abbrev pub NoLine : List ℕ → Type 0
NoLine bytes = (line : Line) (rest : List ℕ) → is_line line ≡ true → bytes ≡ lined (line_text line) ++ rest → ⊥

-- No line stands at the front of the bytes that may come behind these: none at all, or a second of those
-- that stand at most once.
abbrev pub NoNext : List Line → List ℕ → Type 0
NoNext lines bytes = (line : Line) (rest : List ℕ) → is_line line ≡ true → AreOnce (lines ++ line ∷ []) → bytes ≡ lined (line_text line) ++ rest → ⊥

-- the byte at which the first declaration of an attribute begins
abbrev pub attribute_place : Block → ℕ
attribute_place block = length (block_text (record block { lines = before_attribute block.lines }))

-- A front ends too early: bytes are left behind it, or it has no line.
abbrev pub is_cut : Block → List ℕ → Bool
is_cut front rest = not (length rest == 0) || (length front.lines == 0)

-- The byte at which the first bad line of a text begins, which is a front and then a rest where no line may
-- come next; none where the front is a file. It is the declaration of an attribute that is a signal; or else
-- the line behind the front, which is the end of the text where the first line stands alone; or else the first
-- line of the text, where some of a part's lines stand, but not all.
abbrev pub bad_line : Block → List ℕ → Option ℕ
bad_line front rest =
    if is_attribute_signal front.lines then Some (attribute_place front)
    else (if is_cut front rest then Some (length (block_text front))
    else (if is_partial front.lines then Some 0 else None))

-- The first bad line begins at this byte: no first line of the form stands there, or it is told by the front
-- of all lines that follow one another in the form, and by what is left behind them.
abbrev pub IsBad : List ℕ → ℕ → Type 0
IsBad bytes at =
    ((at ≡ 0) × (0 < length bytes) × NoHead bytes)
    ⊎ ((front : Block) × (rest : List ℕ) × (bytes ≡ block_text front ++ rest) × IsFront front × NoNext front.lines rest
    × (bad_line front rest ≡ Some at))
