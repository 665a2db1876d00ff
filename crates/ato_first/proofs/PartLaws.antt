-- Laws of the part that a block describes: it has one or none, its three lines are the only ones of their
-- kind, and what they say is of the form.
use Rattle.std.proofs.Common.{◌≡◌, ℕ, ◌≤◌, List, [], ◌∷◌, length, Bool, true, ap, sym, ◌∙◌, arith}
use Rattle.std.specs.Prelude.{Option, Some, None, ◌⊎◌}
use Rattle.std.specs.List.{list_all, filter_map, cons_option, slice_get}
use Rattle.ato_first.specs.FirstForm.{is_line, is_kind_text, is_attribute_name, is_ascii_name, is_short_number, IsFront, IsFile}
use Rattle.ato_first.specs.PartLines.{kind_in, attribute_in, assertion_in, kinds_of, attributes_of, assertions_of, kind_of, attribute_of, assertion_of, AreOnce, HasPart, IsPartless}
use Rattle.ato_first.specs.declared.first_form.Assertion.{Assertion}
use Rattle.ato_first.specs.declared.first_form.Block.{Block}
use Rattle.ato_first.specs.declared.first_form.Line.{Line}
use Rattle.ato_first.specs.declared.first_form.Line.TheVariants as lines
use Rattle.ato_first.proofs.Bools.{and_true}
use Rattle.ato_first.proofs.PartLineLemmas.{assertion_parts}

-- A block of a file describes a part, or none.
pub part_or_none : (source : List ℕ) (block : Block) → IsFile source (Some block) → HasPart block ⊎ IsPartless block
part_or_none source block h = h.3

-- No block does both.
pub part_not_none : (block : Block) → HasPart block → IsPartless block → ⊥
part_not_none block (kind, attribute, assertion, k, a, s, clear) (no_kind, no_attribute, no_assertion) =
    let e : Some kind ≡ None = sym k ∙ no_kind in let contrary : ⊥ = cc in contrary

-- The one that stands is the only one.

only : {Y : Type 0} (ys : List Y) (y : Y) → length ys ≤ 1 → slice_get ys 0 ≡ Some y → ys ≡ y ∷ []
only [] y few e = let bad : ⊥ = cc in absurd bad
only (x ∷ []) y few e = let same : x ≡ y = cc in ap (λ z. z ∷ []) same
only (x ∷ z ∷ zs) y few e = absurd (omega arith)

pub only_kind : (lines : List Line) (kind : List ℕ) → AreOnce lines → kind_of lines ≡ Some kind → kinds_of lines ≡ kind ∷ []
only_kind lines kind once e = only (kinds_of lines) kind once.kinds e

pub only_attribute : (lines : List Line) (name : List ℕ) → AreOnce lines → attribute_of lines ≡ Some name → attributes_of lines ≡ name ∷ []
only_attribute lines name once e = only (attributes_of lines) name once.attributes e

pub only_assertion : (lines : List Line) (assertion : Assertion) → AreOnce lines → assertion_of lines ≡ Some assertion → assertions_of lines ≡ assertion ∷ []
only_assertion lines assertion once e = only (assertions_of lines) assertion once.assertions e

-- What a line of the form says is of the form.

first_said : {Y : Type 0} (f : Line → Option Y) (p : Y → Bool) → ((line : Line) (y : Y) → f line ≡ Some y → is_line line ≡ true → p y ≡ true) → (lines : List Line) (y : Y)
    → list_all is_line lines ≡ true → slice_get (filter_map f lines) 0 ≡ Some y → p y ≡ true
first_said f p is [] y are e = let bad : ⊥ = cc in absurd bad
first_said {Y} f p is (l ∷ ls) y are e = by (f l) (λ x same. is l x same (and_true (is_line l) (list_all is_line ls) are).0) (first_said f p is ls y (and_true (is_line l) (list_all is_line ls) are).1) e
  where
    by : (o : Option Y) → ((x : Y) → o ≡ Some x → p x ≡ true) → (slice_get (filter_map f ls) 0 ≡ Some y → p y ≡ true) → slice_get (cons_option o (filter_map f ls)) 0 ≡ Some y → p y ≡ true
    by None here more e = more e
    by (Some x) here more e = here y e

is_kind : (line : Line) (text : List ℕ) → kind_in line ≡ Some text → is_line line ≡ true → is_kind_text text ≡ true
is_kind (lines.Kind kind) text e h = let same : kind ≡ text = cc in ap is_kind_text (sym same) ∙ h
is_kind lines.Pass text e h = let bad : ⊥ = cc in absurd bad
is_kind (lines.Declaration point) text e h = let bad : ⊥ = cc in absurd bad
is_kind (lines.Join left right) text e h = let bad : ⊥ = cc in absurd bad
is_kind (lines.Attribute name) text e h = let bad : ⊥ = cc in absurd bad
is_kind (lines.Assertion a) text e h = let bad : ⊥ = cc in absurd bad

is_attribute : (line : Line) (name : List ℕ) → attribute_in line ≡ Some name → is_line line ≡ true → is_attribute_name name ≡ true
is_attribute (lines.Attribute attribute) name e h = let same : attribute ≡ name = cc in ap is_attribute_name (sym same) ∙ h
is_attribute lines.Pass name e h = let bad : ⊥ = cc in absurd bad
is_attribute (lines.Declaration point) name e h = let bad : ⊥ = cc in absurd bad
is_attribute (lines.Join left right) name e h = let bad : ⊥ = cc in absurd bad
is_attribute (lines.Kind text) name e h = let bad : ⊥ = cc in absurd bad
is_attribute (lines.Assertion a) name e h = let bad : ⊥ = cc in absurd bad

is_assertion : (line : Line) (a : Assertion) → assertion_in line ≡ Some a → is_line line ≡ true → is_line (lines.Assertion a) ≡ true
is_assertion (lines.Assertion assertion) a e h = let same : assertion ≡ a = cc in ap (λ x. is_line (lines.Assertion x)) (sym same) ∙ h
is_assertion lines.Pass a e h = let bad : ⊥ = cc in absurd bad
is_assertion (lines.Declaration point) a e h = let bad : ⊥ = cc in absurd bad
is_assertion (lines.Join left right) a e h = let bad : ⊥ = cc in absurd bad
is_assertion (lines.Kind text) a e h = let bad : ⊥ = cc in absurd bad
is_assertion (lines.Attribute name) a e h = let bad : ⊥ = cc in absurd bad

pub kind_form : (block : Block) (kind : List ℕ) → IsFront block → kind_of block.lines ≡ Some kind → is_kind_text kind ≡ true
kind_form block kind h e = first_said kind_in is_kind_text is_kind block.lines kind h.lines e

pub attribute_form : (block : Block) (name : List ℕ) → IsFront block → attribute_of block.lines ≡ Some name → is_attribute_name name ≡ true
attribute_form block name h e = first_said attribute_in is_attribute_name is_attribute block.lines name h.lines e

pub assertion_form : (block : Block) (a : Assertion) → IsFront block → assertion_of block.lines ≡ Some a → (is_ascii_name a.name ≡ true) × (is_short_number a.low ≡ true) × (is_short_number a.high ≡ true)
assertion_form block a h e = assertion_parts a (first_said assertion_in (λ x. is_line (lines.Assertion x)) is_assertion block.lines a h.lines e)
