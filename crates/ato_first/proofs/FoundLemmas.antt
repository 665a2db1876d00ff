-- What is found of a part among lines, with one more line.
use Rattle.std.proofs.Common.{◌≡◌, ℕ, ◌+◌, ◌≤◌, List, [], ◌∷◌, ◌++◌, length, Bool, true, false, ◌||◌, ◌&&◌, not, ap, sym, ◌∙◌, refl, arith, subst}
use Rattle.std.specs.Prelude.{Option, Some, None, is_some}
use Rattle.std.specs.List.{filter_map, slice_get}
use Rattle.ato_first.specs.FirstForm.{lines_text}
use Rattle.ato_first.specs.PartLines.{kind_in, attribute_in, assertion_in, kinds_of, attributes_of, assertions_of, kind_of, attribute_of, is_partial, AreOnce}
use Rattle.ato_first.specs.Statements.{IsDeclared, IsFound}
use Rattle.ato_first.specs.declared.first_form.Assertion.{Assertion}
use Rattle.ato_first.specs.declared.first_form.Line.{Line}
use Rattle.ato_first.specs.declared.first_form.Line.TheVariants as forms
use Rattle.ato_first.specs.declared.fronts.Declared.{Declared}
use Rattle.ato_first.specs.declared.fronts.Found.{Found}
use Rattle.ato_first.proofs.OnceLemmas.{said_same, said_twice, said_first, before_kept, before_first}

same_count : {Y : Type 0} (f : Line → Option Y) (lines : List Line) (line : Line) → f line ≡ None → length (filter_map f lines) ≤ 1 → length (filter_map f (lines ++ line ∷ [])) ≤ 1
same_count f lines line e h = subst (λ ys. length ys ≤ 1) (sym (said_same f lines line e)) h

one_count : {Y : Type 0} (f : Line → Option Y) (lines : List Line) (line : Line) (y : Y) → filter_map f (lines ++ line ∷ []) ≡ y ∷ [] → length (filter_map f (lines ++ line ∷ [])) ≤ 1
one_count f lines line y e = omega (arith, ap length e)

same_some : {Y : Type 0} (f : Line → Option Y) (lines : List Line) (line : Line) (b : Bool) → f line ≡ None → b ≡ is_some (slice_get (filter_map f lines) 0) → b ≡ is_some (slice_get (filter_map f (lines ++ line ∷ [])) 0)
same_some f lines line b e h = h ∙ ap (λ ys. is_some (slice_get ys 0)) (sym (said_same f lines line e))

declared_same : (found : Option Declared) (place : ℕ) (lines : List Line) (line : Line) → attribute_in line ≡ None → IsDeclared found place lines → IsDeclared found place (lines ++ line ∷ [])
declared_same None place lines line e h = ap (λ names. slice_get names 0) (said_same attribute_in lines line e) ∙ h
declared_same (Some found) place lines line e (is, at) = (
  ap (λ names. slice_get names 0) (said_same attribute_in lines line e) ∙ is,
  at ∙ ap (λ ls. place + length (lines_text ls)) (sym (before_kept attribute_in lines (line ∷ []) (ap is_some is))),
)

-- a line that is none of the three
pub with_other : (found : Found) (place : ℕ) (lines : List Line) (line : Line) → kind_in line ≡ None → attribute_in line ≡ None → assertion_in line ≡ None → AreOnce lines → IsFound found place lines
    → AreOnce (lines ++ line ∷ []) × IsFound found place (lines ++ line ∷ [])
with_other found place lines line k a s once h = (
  record { kinds = same_count kind_in lines line k once.kinds; attributes = same_count attribute_in lines line a once.attributes; assertions = same_count assertion_in lines line s once.assertions },
  record {
    kind = same_some kind_in lines line found.kind k h.kind;
    attribute = declared_same found.attribute place lines line a h.attribute;
    assertion = same_some assertion_in lines line found.assertion s h.assertion;
  },
)

-- the first line of a kind

pub with_kind : (found : Found) (place : ℕ) (lines : List Line) (text : List ℕ) → found.kind ≡ false → AreOnce lines → IsFound found place lines
    → AreOnce (lines ++ forms.Kind text ∷ []) × IsFound (record found { kind = true }) place (lines ++ forms.Kind text ∷ [])
with_kind found place lines text none once h =
    let line : Line = forms.Kind text in
    let only : kinds_of (lines ++ line ∷ []) ≡ text ∷ [] = said_first kind_in lines line text refl (sym h.kind ∙ none) in (
      record { kinds = one_count kind_in lines line text only; attributes = same_count attribute_in lines line refl once.attributes; assertions = same_count assertion_in lines line refl once.assertions },
      record {
        kind = sym (ap (λ ys. is_some (slice_get ys 0)) only);
        attribute = declared_same found.attribute place lines line refl h.attribute;
        assertion = same_some assertion_in lines line found.assertion refl h.assertion;
      },
    )

pub with_assertion : (found : Found) (place : ℕ) (lines : List Line) (a : Assertion) → found.assertion ≡ false → AreOnce lines → IsFound found place lines
    → AreOnce (lines ++ forms.Assertion a ∷ []) × IsFound (record found { assertion = true }) place (lines ++ forms.Assertion a ∷ [])
with_assertion found place lines a none once h =
    let line : Line = forms.Assertion a in
    let only : assertions_of (lines ++ line ∷ []) ≡ a ∷ [] = said_first assertion_in lines line a refl (sym h.assertion ∙ none) in (
      record { kinds = same_count kind_in lines line refl once.kinds; attributes = same_count attribute_in lines line refl once.attributes; assertions = one_count assertion_in lines line a only },
      record {
        kind = same_some kind_in lines line found.kind refl h.kind;
        attribute = declared_same found.attribute place lines line refl h.attribute;
        assertion = sym (ap (λ ys. is_some (slice_get ys 0)) only);
      },
    )

pub with_attribute : (found : Found) (place : ℕ) (lines : List Line) (added : Declared) → found.attribute ≡ None → AreOnce lines → IsFound found place lines
    → added.at ≡ place + length (lines_text lines)
    → AreOnce (lines ++ forms.Attribute added.name.now ∷ []) × IsFound (record found { attribute = Some added }) place (lines ++ forms.Attribute added.name.now ∷ [])
with_attribute found place lines added none once h at =
    let line : Line = forms.Attribute added.name.now in
    let before : slice_get (attributes_of lines) 0 ≡ None = subst (λ o. IsDeclared o place lines) none h.attribute in
    let only : attributes_of (lines ++ line ∷ []) ≡ added.name.now ∷ [] = said_first attribute_in lines line added.name.now refl (ap is_some before) in (
      record { kinds = same_count kind_in lines line refl once.kinds; attributes = one_count attribute_in lines line added.name.now only; assertions = same_count assertion_in lines line refl once.assertions },
      record {
        kind = same_some kind_in lines line found.kind refl h.kind;
        attribute = (
          ap (λ names. slice_get names 0) only,
          at ∙ ap (λ ls. place + length (lines_text ls)) (sym (before_first attribute_in lines line added.name.now refl (ap is_some before))),
        );
        assertion = same_some assertion_in lines line found.assertion refl h.assertion;
      },
    )

-- a second line of a kind

pub second_kind : (found : Found) (place : ℕ) (lines : List Line) (text : List ℕ) → found.kind ≡ true → IsFound found place lines → AreOnce (lines ++ forms.Kind text ∷ []) → ⊥
second_kind found place lines text some h once = said_twice kind_in lines (forms.Kind text) text refl (sym h.kind ∙ some) once.kinds

pub second_assertion : (found : Found) (place : ℕ) (lines : List Line) (a : Assertion) → found.assertion ≡ true → IsFound found place lines → AreOnce (lines ++ forms.Assertion a ∷ []) → ⊥
second_assertion found place lines a some h once = said_twice assertion_in lines (forms.Assertion a) a refl (sym h.assertion ∙ some) once.assertions

pub second_attribute : (found : Found) (place : ℕ) (lines : List Line) (name : List ℕ) (old : Declared) → found.attribute ≡ Some old → IsFound found place lines
    → AreOnce (lines ++ forms.Attribute name ∷ []) → ⊥
second_attribute found place lines name old some h once =
    let is = subst (λ o. IsDeclared o place lines) some h.attribute in
    said_twice attribute_in lines (forms.Attribute name) name refl (ap is_some is.0) once.attributes

-- whether some of the three are found, but not all

some_declared : (found : Option Declared) (place : ℕ) (lines : List Line) → IsDeclared found place lines → is_some found ≡ is_some (attribute_of lines)
some_declared None place lines h = sym (ap is_some h)
some_declared (Some found) place lines h = sym (ap is_some h.0)

pub found_partial : (found : Found) (place : ℕ) (lines : List Line) → IsFound found place lines
    → ((found.kind || is_some found.attribute || found.assertion) && not (found.kind && is_some found.attribute && found.assertion)) ≡ is_partial lines
found_partial found place lines h =
    let test : Bool → Bool → Bool → Bool = λ (k a s : Bool). (k || a || s) && not (k && a && s) in
    ap (λ k. test k (is_some found.attribute) found.assertion) h.kind
    ∙ ap (λ a. test (is_some (kind_of lines)) a found.assertion) (some_declared found.attribute place lines h.attribute)
    ∙ ap (λ s. test (is_some (kind_of lines)) (is_some (attribute_of lines)) s) h.assertion
