-- The tokens of a file of the first form, with their places. It goes once whole files are read.
use Rattle.std.specs.Prelude.{◌≡◌, ℕ, ◌+◌, ◌*◌, ◌-◌, true, nat_le, if◌then◌else◌, List, [], ◌∷◌, ◌++◌, length, codes, fold, Option, Some, None, All}
use Rattle.std.specs.List.{flat_map}
use Rattle.ato_base.specs.NameTable.{number_of, IsHeld}
use Rattle.ato_base.specs.declared.places.FileId.{FileId}
use Rattle.ato_base.specs.declared.places.Place.TheVariants as places
use Rattle.ato_base.specs.declared.tokens.Token.{Token}
use Rattle.ato_base.specs.declared.tokens.TokenKind.{TokenKind}
use Rattle.ato_base.specs.declared.tokens.TokenKind.TheVariants as kinds
use Rattle.ato_base.specs.declared.keywords.Keyword.TheVariants as words
use Rattle.ato_base.specs.declared.keywords.Mark.TheVariants as marks
use Rattle.ato_base.specs.declared.faults.Fault.{Fault}
use Rattle.ato_base.specs.declared.faults.FaultKind.TheVariants as faults
use Rattle.ato_base.specs.declared.faults.Refusal.{Refusal}
use Rattle.ato_base.specs.declared.faults.Refusal.TheVariants as refusals
use Rattle.ato_first.specs.FirstForm.{is_ascii_name, end_text, line_text, lined, block_text, IsFile, IsBad}
use Rattle.ato_first.specs.declared.first_form.Line.{Line}
use Rattle.ato_first.specs.declared.first_form.Line.TheVariants.{Pass, Declaration, Join, Kind, Attribute}
use Rattle.ato_first.specs.declared.first_form.Line.TheVariants as lines
use Rattle.ato_first.specs.declared.first_form.Assertion.{Assertion}
use Rattle.ato_first.specs.declared.first_form.Point.{Point}
use Rattle.ato_first.specs.declared.first_form.Point.TheVariants.{Signal, Pin}
use Rattle.ato_first.specs.declared.first_form.End.{End}
use Rattle.ato_first.specs.declared.first_form.End.TheVariants.{Name, Declared}
use Rattle.ato_first.specs.declared.first_form.Block.{Block}

-- a token from one byte of the file up to another
abbrev pub token : FileId → TokenKind → ℕ → ℕ → Token
token file kind start end = record { kind = kind; at = record { file = file; start = start; end = end } }

-- the value of digits
abbrev pub digits_value : List ℕ → ℕ
digits_value digits = fold (λ value digit. value * 10 + (digit - 48)) 0 digits

-- the value of digits, where it is at most 65,535
abbrev pub small_value : List ℕ → Option ℕ
small_value digits = if nat_le (digits_value digits) 65535 then Some (digits_value digits) else None

-- the token of a name: its number in the table
abbrev pub name_token : List (List ℕ) → FileId → ℕ → List ℕ → Token
name_token names file at name = token file (kinds.Name (record { 0 = number_of names name })) at (at + length name)

-- the token of digits
abbrev pub number_token : FileId → ℕ → List ℕ → Token
number_token file at digits =
    token file (kinds.Number true (small_value digits) (record { file = file; start = at; end = at + length digits })) at (at + length digits)

-- the token of a pin's label
abbrev pub label_token : List (List ℕ) → FileId → ℕ → List ℕ → Token
label_token names file at label = if is_ascii_name label then name_token names file at label else number_token file at label

-- the tokens of a point that is declared at a byte
abbrev pub point_tokens : List (List ℕ) → FileId → ℕ → Point → List Token
point_tokens names file at (Signal name) = token file (kinds.Keyword words.Signal) at (at + 6) ∷ name_token names file (at + 7) name ∷ []
point_tokens names file at (Pin label) = token file (kinds.Keyword words.Pin) at (at + 3) ∷ label_token names file (at + 4) label ∷ []

-- the tokens of an end of a join that stands at a byte
abbrev pub end_tokens : List (List ℕ) → FileId → ℕ → End → List Token
end_tokens names file at (Name name) = name_token names file at name ∷ []
end_tokens names file at (Declared point) = point_tokens names file at point

-- the token of a text in quotes, of which the first stands at a byte
abbrev pub quoted_token : FileId → ℕ → List ℕ → Token
quoted_token file at text = token file (kinds.Str (record { file = file; start = at + 1; end = at + 1 + length text })) at (at + 2 + length text)

-- the tokens of the two ends of a range, of which the first stands at a byte
abbrev pub range_tokens : FileId → ℕ → List ℕ → List ℕ → List Token
range_tokens file at low high =
    number_token file at low
    ∷ token file (kinds.Keyword words.To) (at + 1 + length low) (at + 3 + length low)
    ∷ number_token file (at + 4 + length low) high ∷ []

-- the tokens of the three lines of a part, each of which begins at a byte
abbrev pub kind_tokens : List (List ℕ) → FileId → ℕ → List ℕ → List Token
kind_tokens names file at text =
    name_token names file (at + 4) (codes "kind") ∷ token file (kinds.Mark marks.Equal) (at + 9) (at + 10) ∷ quoted_token file (at + 11) text ∷ []

abbrev pub attribute_tokens : List (List ℕ) → FileId → ℕ → List ℕ → List Token
attribute_tokens names file at name =
    name_token names file (at + 4) name
    ∷ token file (kinds.Mark marks.Colon) (at + 4 + length name) (at + 5 + length name)
    ∷ name_token names file (at + 6 + length name) (codes "dimensionless") ∷ []

abbrev pub assertion_tokens : List (List ℕ) → FileId → ℕ → Assertion → List Token
assertion_tokens names file at a =
    token file (kinds.Keyword words.Assert) (at + 4) (at + 10)
    ∷ name_token names file (at + 11) a.name
    ∷ token file (kinds.Keyword words.Within) (at + 12 + length a.name) (at + 18 + length a.name)
    ∷ range_tokens file (at + 19 + length a.name) a.low a.high

-- the tokens of a line that begins at a byte, without its line end
abbrev pub words_tokens : List (List ℕ) → FileId → ℕ → Line → List Token
words_tokens names file at Pass = token file (kinds.Keyword words.Pass) (at + 4) (at + 8) ∷ []
words_tokens names file at (Declaration point) = point_tokens names file (at + 4) point
words_tokens names file at (Join left right) =
    end_tokens names file (at + 4) left
    ++ (token file (kinds.Mark marks.Tilde) (at + 5 + length (end_text left)) (at + 6 + length (end_text left))
    ∷ end_tokens names file (at + 7 + length (end_text left)) right)
words_tokens names file at (Kind text) = kind_tokens names file at text
words_tokens names file at (Attribute name) = attribute_tokens names file at name
words_tokens names file at (lines.Assertion a) = assertion_tokens names file at a

-- the tokens of a line that begins at a byte
abbrev pub line_tokens : List (List ℕ) → FileId → ℕ → Line → List Token
line_tokens names file at line =
    words_tokens names file at line ++ token file kinds.Newline (at + length (line_text line)) (at + length (line_text line)) ∷ []

-- the tokens of lines, of which the first begins at a byte
abbrev pub lines_tokens : List (List ℕ) → FileId → ℕ → List Line → List Token
lines_tokens names file at [] = []
lines_tokens names file at (line ∷ lines) = line_tokens names file at line ++ lines_tokens names file (at + length (lined (line_text line))) lines

-- the tokens of the first line, and the indentation of the next, which begins at byte 12 + length name
abbrev pub head_tokens : List (List ℕ) → FileId → List ℕ → List Token
head_tokens names file name =
    token file (kinds.Keyword words.Component) 0 9
    ∷ name_token names file 10 name
    ∷ token file (kinds.Mark marks.Colon) (10 + length name) (11 + length name)
    ∷ token file kinds.Newline (11 + length name) (11 + length name)
    ∷ token file kinds.Indent (16 + length name) (16 + length name) ∷ []

-- the tokens after the last line of a file of so many bytes
abbrev pub last_tokens : FileId → ℕ → List Token
last_tokens file size = token file kinds.Dedent size size ∷ token file kinds.End size size ∷ []

-- the tokens of a file
abbrev pub file_tokens : List (List ℕ) → FileId → Option Block → List Token
file_tokens names file None = token file kinds.End 0 0 ∷ []
file_tokens names file (Some block) =
    head_tokens names file block.name ++ (lines_tokens names file (12 + length block.name) block.lines ++ last_tokens file (length (block_text block)))

-- the names that are mentioned
abbrev pub point_names : Point → List (List ℕ)
point_names (Signal name) = name ∷ []
point_names (Pin label) = if is_ascii_name label then label ∷ [] else []

abbrev pub end_names : End → List (List ℕ)
end_names (Name name) = name ∷ []
end_names (Declared point) = point_names point

abbrev pub line_names : Line → List (List ℕ)
line_names Pass = []
line_names (Declaration point) = point_names point
line_names (Join left right) = end_names left ++ end_names right
line_names (Kind text) = codes "kind" ∷ []
line_names (Attribute name) = name ∷ codes "dimensionless" ∷ []
line_names (lines.Assertion a) = a.name ∷ []

-- the names that a file mentions, in their order
abbrev pub file_names : Option Block → List (List ℕ)
file_names None = []
file_names (Some block) = block.name ∷ flat_map line_names block.lines

-- The table holds every name of the file.
abbrev pub HoldsNames : List (List ℕ) → Option Block → Type 0
HoldsNames names None = Unit {0}
HoldsNames names (Some block) = IsHeld names block.name × All (λ line. All (IsHeld names) (line_names line)) block.lines

-- The tokens are those of the file that the bytes are, and the table holds its names.
pub record AreTokens (bytes : List ℕ) (file : FileId) (names : List (List ℕ)) (tokens : List Token) (block : Option Block) : Type 0 where
  pub is : IsFile bytes block
  pub tokens_are : tokens ≡ file_tokens names file block
  pub held : HoldsNames names block

-- the fault of a line that is not of the form, at its first byte
abbrev pub syntax_fault : FileId → ℕ → Fault
syntax_fault file at = record { kind = faults.Syntax; at = places.Source (record { file = file; start = at; end = at }); other = None; path = [] }

-- Why there are no tokens: want of memory, or the first line that is not of the form.
abbrev pub IsRefused : List ℕ → FileId → Refusal → Type 0
IsRefused bytes file refusals.NoMemory = Unit {0}
IsRefused bytes file (refusals.Fault f) = (at : ℕ) × IsBad bytes at × (f ≡ syntax_fault file at)
