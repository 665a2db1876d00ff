-- Small texts, worked by hand.
use Rattle.std.proofs.Common.{◌≡◌, ℕ, List, [], ◌∷◌, ◌++◌, ◌≤◌, refl, arith, inl, inr, true, lit<, lit≤}
use Rattle.std.specs.Prelude.{codes, Some}
use Rattle.ato_base.specs.declared.places.FileId.{FileId}
use Rattle.ato_base.specs.declared.keywords.Keyword.TheVariants as words
use Rattle.ato_base.specs.declared.keywords.Mark.TheVariants as marks
use Rattle.ato_base.specs.declared.tokens.TokenKind.TheVariants as kinds
use Rattle.ato_first.specs.FirstForm.{IsFile, IsBad, NoNext}
use Rattle.ato_first.specs.PartLines.{AreOnce}
use Rattle.ato_first.specs.FirstTokens.{file_tokens, line_tokens, lines_tokens, token}
use Rattle.ato_first.specs.declared.first_form.Block.{Block}
use Rattle.ato_first.specs.declared.first_form.Line.{Line}
use Rattle.ato_first.specs.declared.first_form.Line.TheVariants.{Declaration, Join, Kind, Attribute}
use Rattle.ato_first.specs.declared.first_form.Line.TheVariants as lines
use Rattle.ato_first.specs.declared.first_form.Assertion.{Assertion}
use Rattle.ato_first.specs.declared.first_form.Point.TheVariants.{Signal, Pin}
use Rattle.ato_first.specs.declared.first_form.End.TheVariants.{Name, Declared}
use Rattle.ato_first.proofs.FirstFormLemmas.{no_line_here, no_next}
use Rattle.ato_first.proofs.OnceLemmas.{second_next}

abbrev file : FileId
file = record { 0 = 1 }

abbrev names : List (List ℕ)
names = codes "abs" ∷ codes "max" ∷ codes "min" ∷ codes "T" ∷ []

-- a component with one pin, which its file writes as 23 bytes
abbrev block : Block
block = record { name = codes "T"; lines = Declaration (Pin (codes "1")) ∷ [] }

pub one_pin : IsFile (codes "component T:" ++ 10 ∷ codes "    pin 1" ++ 10 ∷ []) (Some block)
one_pin = (refl, record { name = refl; lines = refl; once = record { kinds = lit≤ tt; attributes = lit≤ tt; assertions = lit≤ tt } }, lit< tt, inr (refl, refl, refl))

pub one_pin_tokens : file_tokens names file (Some block) ≡
    token file (kinds.Keyword words.Component) 0 9
    ∷ token file (kinds.Name (record { 0 = 3 })) 10 11
    ∷ token file (kinds.Mark marks.Colon) 11 12
    ∷ token file kinds.Newline 12 12
    ∷ token file kinds.Indent 17 17
    ∷ token file (kinds.Keyword words.Pin) 17 20
    ∷ token file (kinds.Number true (Some 1) (record { file = file; start = 21; end = 22 })) 21 22
    ∷ token file kinds.Newline 22 22
    ∷ token file kinds.Dedent 23 23
    ∷ token file kinds.End 23 23 ∷ []
one_pin_tokens = refl

-- a line that joins a signal and a pin, which is 13 bytes long
abbrev join : Line
join = Join (Name (codes "a")) (Declared (Pin (codes "1")))

abbrev names_and_a : List (List ℕ)
names_and_a = codes "abs" ∷ codes "max" ∷ codes "min" ∷ codes "T" ∷ codes "a" ∷ []

pub join_tokens : line_tokens names_and_a file 0 join ≡
    token file (kinds.Name (record { 0 = 4 })) 4 5
    ∷ token file (kinds.Mark marks.Tilde) 6 7
    ∷ token file (kinds.Keyword words.Pin) 8 11
    ∷ token file (kinds.Number true (Some 1) (record { file = file; start = 12; end = 13 })) 12 13
    ∷ token file kinds.Newline 13 13 ∷ []
join_tokens = refl

-- a component with a signal and that join
abbrev joined : Block
joined = record { name = codes "T"; lines = Declaration (Signal (codes "a")) ∷ join ∷ [] }

pub one_join : IsFile (codes "component T:" ++ 10 ∷ codes "    signal a" ++ 10 ∷ codes "    a ~ pin 1" ++ 10 ∷ []) (Some joined)
one_join = (refl, record { name = refl; lines = refl; once = record { kinds = lit≤ tt; attributes = lit≤ tt; assertions = lit≤ tt } }, lit< tt, inr (refl, refl, refl))

-- nothing twice
no_line : AreOnce []
no_line = record { kinds = lit≤ tt; attributes = lit≤ tt; assertions = lit≤ tt }

-- the first line alone, which lacks a line at its end
pub head_alone : IsBad (codes "component T:" ++ 10 ∷ []) 13
head_alone =
    let front : Block = record { name = codes "T"; lines = [] } in
    inr (front, [], refl, record { name = refl; lines = refl; once = no_line }, no_next [] [] no_line_here, refl)

-- the three lines of a part, of 15, 21 and 28 bytes
abbrev kind : Line
kind = Kind (codes "r")

abbrev attribute : Line
attribute = Attribute (codes "x")

abbrev claim : Assertion
claim = record { name = codes "x"; low = codes "1"; high = codes "20" }

abbrev assertion : Line
assertion = lines.Assertion claim

abbrev names_of_part : List (List ℕ)
names_of_part = codes "T" ∷ codes "kind" ∷ codes "x" ∷ codes "dimensionless" ∷ []

pub part_tokens : lines_tokens names_of_part file 13 (kind ∷ attribute ∷ assertion ∷ []) ≡
    token file (kinds.Name (record { 0 = 1 })) 17 21
    ∷ token file (kinds.Mark marks.Equal) 22 23
    ∷ token file (kinds.Str (record { file = file; start = 25; end = 26 })) 24 27
    ∷ token file kinds.Newline 27 27
    ∷ token file (kinds.Name (record { 0 = 2 })) 32 33
    ∷ token file (kinds.Mark marks.Colon) 33 34
    ∷ token file (kinds.Name (record { 0 = 3 })) 35 48
    ∷ token file kinds.Newline 48 48
    ∷ token file (kinds.Keyword words.Assert) 53 59
    ∷ token file (kinds.Name (record { 0 = 2 })) 60 61
    ∷ token file (kinds.Keyword words.Within) 62 68
    ∷ token file (kinds.Number true (Some 1) (record { file = file; start = 69; end = 70 })) 69 70
    ∷ token file (kinds.Keyword words.To) 71 73
    ∷ token file (kinds.Number true (Some 20) (record { file = file; start = 74; end = 76 })) 74 76
    ∷ token file kinds.Newline 76 76 ∷ []
part_tokens = refl

-- a component with a part
abbrev described : Block
described = record { name = codes "T"; lines = assertion ∷ kind ∷ attribute ∷ [] }

pub with_part : IsFile (codes "component T:\n    assert x within 1 to 20\n    kind = \"r\"\n    x: dimensionless\n") (Some described)
with_part = (
  refl,
  record { name = refl; lines = refl; once = record { kinds = lit≤ tt; attributes = lit≤ tt; assertions = lit≤ tt } },
  lit< tt,
  inl (codes "r", codes "x", claim, refl, refl, refl, refl),
)

-- two of the three lines: the first line of the file is bad
pub two_of_three : IsBad (codes "component T:\n    kind = \"r\"\n    x: dimensionless\n") 0
two_of_three =
    let front : Block = record { name = codes "T"; lines = kind ∷ attribute ∷ [] } in
    let once : AreOnce front.lines = record { kinds = lit≤ tt; attributes = lit≤ tt; assertions = lit≤ tt } in
    inr (front, [], refl, record { name = refl; lines = refl; once = once }, no_next front.lines [] no_line_here, refl)

-- a second kind, in the third line
pub second_kind : IsBad (codes "component T:\n    kind = \"r\"\n    kind = \"c\"\n    x: dimensionless\n") 28
second_kind =
    let front : Block = record { name = codes "T"; lines = kind ∷ [] } in
    let rest : List ℕ = codes "    kind = \"c\"\n    x: dimensionless\n" in
    let once : AreOnce front.lines = record { kinds = lit≤ tt; attributes = lit≤ tt; assertions = lit≤ tt } in
    let none : NoNext front.lines rest = second_next front.lines (Kind (codes "c")) rest (codes "    x: dimensionless\n") refl refl (λ again. let two : 2 ≤ 1 = again.kinds in omega arith) in
    inr (front, rest, refl, record { name = refl; lines = refl; once = once }, none, refl)

-- an attribute that a later line declares as a signal, in the second line
pub attribute_and_signal : IsBad (codes "component T:\n    x: dimensionless\n    pin 1 ~ signal x\n") 13
attribute_and_signal =
    let front : Block = record { name = codes "T"; lines = attribute ∷ Join (Declared (Pin (codes "1"))) (Declared (Signal (codes "x"))) ∷ [] } in
    let once : AreOnce front.lines = record { kinds = lit≤ tt; attributes = lit≤ tt; assertions = lit≤ tt } in
    inr (front, [], refl, record { name = refl; lines = refl; once = once }, no_next front.lines [] no_line_here, refl)
