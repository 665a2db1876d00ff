-- The part that a block of the first form describes, which rows of a catalogue may be it, and which of them are good.
-- No interval arithmetic occurs here: the values are all rational numbers between two whole ones.
use Rattle.std.specs.Prelude.{◌≡◌, ℕ, ◌+◌, Bool, false, nat_lt, if◌then◌else◌, pos, List, [], ◌∷◌, ◌++◌, All, Option, Some, None, option_map, option_and_then, unwrap_or, Contains}
use Rattle.std.specs.List.{list_any}
use Rattle.std.specs.Str.{bytes_eq}
use Rattle.ato_rational.specs.Rational.{ℚ, whole}
use Rattle.ato_rational.specs.Ranges.{IsWithin}
use Rattle.ato_first.specs.PartLines.{kind_of, attribute_of, assertion_of}
use Rattle.ato_first.specs.declared.first_form.Assertion.{Assertion}
use Rattle.ato_first.specs.declared.first_form.Line.{Line}
use Rattle.ato_first.specs.declared.first_form.Line.TheVariants as lines
use Rattle.ato_first.specs.declared.first_form.Block.{Block}
use Rattle.ato_first_catalog.specs.Contents.{Contents, cell_under, numbered}
use Rattle.ato_first_catalog.specs.Ranges.{digits_value}
use Rattle.ato_first_catalog.specs.Rows.{PlainRow}
use Rattle.ato_first_catalog.specs.declared.header.Column.{Column}
use Rattle.ato_first.specs.FirstPoints.{IsFirstLineAt}

-- the kind of a part, its attribute, and the least and the greatest value that is asserted of it
pub record Part : Type 0 where
  pub kind : List ℕ
  pub attribute : List ℕ
  pub low : ℕ
  pub high : ℕ

abbrev pub part_with : List ℕ → List ℕ → Assertion → Part
part_with kind attribute asserted = record { kind = kind; attribute = attribute; low = digits_value asserted.low; high = digits_value asserted.high }

-- the part that lines describe, where all three of its lines stand
abbrev pub part_of : List Line → Option Part
part_of lines =
    option_and_then (λ kind. option_and_then (λ attribute. option_map (part_with kind attribute) (assertion_of lines)) (attribute_of lines)) (kind_of lines)

-- how many slots a block has for its part, each with one attribute and one check
abbrev pub slot_count : Option Part → ℕ
slot_count None = 0
slot_count (Some part) = 1

-- The line asserts a range whose low end is above its high end.
abbrev pub is_empty_range : Line → Bool
is_empty_range (lines.Assertion asserted) = nat_lt (digits_value asserted.high) (digits_value asserted.low)
is_empty_range line = false

-- No line does.
abbrev pub HasRanges : Block → Type 0
HasRanges block = list_any is_empty_range block.lines ≡ false

-- The first such line begins at this byte.
abbrev pub IsEmptyAt : Block → ℕ → Type 0
IsEmptyAt block at = IsFirstLineAt is_empty_range block at

-- ---- candidates

-- a row of the catalogue with its number, and the range that it has under the attribute
pub record Candidate : Type 0 where
  pub number : ℕ
  pub low : ℕ
  pub high : ℕ

-- the candidate that a row is: its kind is the part's, and it has a range under the attribute, whatever else it has
abbrev pub candidate_in : List Column → Part → ℕ → PlainRow → Option Candidate
candidate_in columns part number row =
    if bytes_eq row.kind part.kind then option_map (λ range. record { number = number; low = range.0; high = range.1 }) (cell_under columns row.cells part.attribute)
    else None

abbrev pub with_candidate : Option Candidate → List Candidate → List Candidate
with_candidate None candidates = candidates
with_candidate (Some candidate) candidates = candidate ∷ candidates

-- the candidates among rows, of which the first has this number
abbrev pub candidates_from : List Column → Part → ℕ → List PlainRow → List Candidate
candidates_from columns part number [] = []
candidates_from columns part number (row ∷ rows) = with_candidate (candidate_in columns part number row) (candidates_from columns part (number + 1) rows)

-- the candidates of a part in a catalogue, whose rows are numbered from 1
abbrev pub candidates : Contents → Part → List Candidate
candidates contents part = candidates_from contents.columns part 1 contents.rows

-- ---- picks

-- A value lies between two whole numbers.
abbrev pub IsBetween : ℕ → ℕ → ℚ → Type 0
IsBetween low high x = IsWithin (whole (pos low)) (whole (pos high)) x

-- What is asserted of the part holds at every value that the candidate may have.
abbrev pub IsGoodCandidate : Part → Candidate → Type 0
IsGoodCandidate part candidate = (x : ℚ) → IsBetween candidate.low candidate.high x → IsBetween part.low part.high x

-- the number of a candidate that is good
pub record IsGoodNumber (contents : Contents) (part : Part) (number : ℕ) : Type 0 where
  pub candidate : Candidate
  pub is : Contains (candidates contents part) candidate
  pub numbered : candidate.number ≡ number
  pub good : IsGoodCandidate part candidate

-- A pick takes one candidate for the part, or nothing where there is none. It is good where the assertion holds at every
-- value of the candidate.
abbrev pub IsGoodPick : Option Part → Contents → List ℕ → Type 0
IsGoodPick None contents [] = Unit {0}
IsGoodPick None contents (number ∷ numbers) = ⊥
IsGoodPick (Some part) contents [] = ⊥
IsGoodPick (Some part) contents (number ∷ []) = IsGoodNumber contents part number
IsGoodPick (Some part) contents (number ∷ other ∷ numbers) = ⊥

-- the number of the first candidate that is good
pub record IsFirstGoodNumber (contents : Contents) (part : Part) (number : ℕ) : Type 0 where
  pub before : List Candidate
  pub candidate : Candidate
  pub after : List Candidate
  pub candidates_are : candidates contents part ≡ before ++ candidate ∷ after
  pub numbered : candidate.number ≡ number
  pub good : IsGoodCandidate part candidate
  pub none_before : All (λ other. IsGoodCandidate part other → ⊥) before

-- The pick takes the first good candidate, or nothing where there is no part.
abbrev pub IsFirstGoodPick : Option Part → Contents → List ℕ → Type 0
IsFirstGoodPick None contents [] = Unit {0}
IsFirstGoodPick None contents (number ∷ numbers) = ⊥
IsFirstGoodPick (Some part) contents [] = ⊥
IsFirstGoodPick (Some part) contents (number ∷ []) = IsFirstGoodNumber contents part number
IsFirstGoodPick (Some part) contents (number ∷ other ∷ numbers) = ⊥

-- No pick is good.
abbrev pub NoGoodPick : Option Part → Contents → Type 0
NoGoodPick part contents = (pick : List ℕ) → IsGoodPick part contents pick → ⊥

-- the name of the part that a pick takes, in the row of its number
abbrev pub picked_part : Contents → List ℕ → Option (List ℕ)
picked_part contents [] = None
picked_part contents (number ∷ numbers) = option_map (λ row. row.part) (numbered contents.rows number)

-- what stands for the component in a netlist: the picked part, or the block's name where none is picked
abbrev pub comp_value : Block → Contents → List ℕ → List ℕ
comp_value block contents pick = unwrap_or (picked_part contents pick) block.name
