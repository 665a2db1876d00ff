-- Laws of the sets of token classes.
use Rattle.std.proofs.Common.{◌≡◌, Bool, true, false, ◌||◌, not, [], ◌∷◌, ◌++◌, Option, Some, None, is_some, refl, ap, sym, ◌∙◌, subst, rules, ◌⊎◌, inl, inr, if◌then◌else◌}
use Rattle.std.proofs.lemmas.Bool.{and_parts, or_cases, not-true}
use denote.Enum.Bare.{same_true}
use Rattle.ato_base.specs.contracts.keywords.Mark.{the_type as mark_type}
use Rattle.ato_base.specs.contracts.keywords.Keyword.{the_type as keyword_type}
use Rattle.ato_base.specs.declared.keywords.Keyword.{Keyword}
use Rattle.ato_base.specs.declared.keywords.Keyword.TheVariants as keywords
use Rattle.ato_base.specs.declared.keywords.Mark.{Mark}
use Rattle.ato_base.specs.declared.keywords.Mark.TheVariants as marks
use Rattle.ato_base.specs.declared.name_table.Name.{Name}
use Rattle.ato_base.specs.declared.tokens.TokenKind.{TokenKind}
use Rattle.ato_base.specs.declared.tokens.TokenKind.TheVariants as kinds
use Rattle.ato_parser.specs.Tokens.{is_end}
use Rattle.ato_parser.specs.Kinds.{same_mark, same_keyword, is_mark, is_keyword, is_newline, is_indent, is_dedent, just, named, name_of, number_of, integer_of, exponent_of, text_of, sign_of, scale_of, unit_of, comparison_of, truth_of, block_of}
use Rattle.ato_parser.specs.Reading.{has}
use Rattle.ato_parser.proofs.Classes.{Class, a_name, an_integer, a_decimal, a_text, a_newline, an_indent, a_dedent, an_end, a_keyword, a_mark, class_of, same_class, Classes, holds, among, apart, within, Tests}

-- ---- sets

pub same_mark_is : (a b : Mark) → same_mark a b ≡ true → a ≡ b
unfolding same_mark
same_mark_is a b e = same_true mark_type (search rules) a b e

pub same_keyword_is : (a b : Keyword) → same_keyword a b ≡ true → a ≡ b
unfolding same_keyword
same_keyword_is a b e = same_true keyword_type (search rules) a b e

pub same_class_is : (a b : Class) → same_class a b ≡ true → a ≡ b
same_class_is a_name a_name e = refl
same_class_is an_integer an_integer e = refl
same_class_is a_decimal a_decimal e = refl
same_class_is a_text a_text e = refl
same_class_is a_newline a_newline e = refl
same_class_is an_indent an_indent e = refl
same_class_is a_dedent a_dedent e = refl
same_class_is an_end an_end e = refl
same_class_is (a_keyword a) (a_keyword b) e = ap a_keyword (same_keyword_is a b e)
same_class_is (a_mark a) (a_mark b) e = ap a_mark (same_mark_is a b e)
same_class_is _ _ e = cc

held_here : (cs ds : Classes) (c k : Class) → holds ds c ≡ true → same_class k c ≡ true → holds ds k ≡ true
held_here cs ds c k held same = subst (λ (d : Class). holds ds d ≡ true) (sym (same_class_is k c same)) held

missed_here : (cs ds : Classes) (c k : Class) → holds ds c ≡ false → same_class k c ≡ true → holds ds k ≡ false
missed_here cs ds c k held same = subst (λ (d : Class). holds ds d ≡ false) (sym (same_class_is k c same)) held

within_here : (cs ds : Classes) (c k : Class) → (holds ds c ≡ true) × (within cs ds ≡ true) → (same_class k c ≡ true) ⊎ (holds cs k ≡ true) → ((holds cs k ≡ true) → holds ds k ≡ true) → holds ds k ≡ true
within_here cs ds c k inside (inl e) more = held_here cs ds c k inside.0 e
within_here cs ds c k inside (inr e) more = more e

pub within_holds : (cs ds : Classes) (k : Class) → within cs ds ≡ true → holds cs k ≡ true → holds ds k ≡ true
within_holds [] ds k inside h = cc
within_holds (c ∷ cs) ds k inside h =
    let parts = and_parts (holds ds c) (within cs ds) inside in
    within_here cs ds c k parts (or_cases (same_class k c) (holds cs k) h) (within_holds cs ds k parts.1)

apart_here : (cs ds : Classes) (c k : Class) → (not (holds ds c) ≡ true) × (apart cs ds ≡ true) → (same_class k c ≡ true) ⊎ (holds cs k ≡ true) → ((holds cs k ≡ true) → holds ds k ≡ false) → holds ds k ≡ false
apart_here cs ds c k away (inl e) more = missed_here cs ds c k (not-true (holds ds c) away.0) e
apart_here cs ds c k away (inr e) more = more e

pub apart_holds : (cs ds : Classes) (k : Class) → apart cs ds ≡ true → holds cs k ≡ true → holds ds k ≡ false
apart_holds [] ds k away h = cc
apart_holds (c ∷ cs) ds k away h =
    let parts = and_parts (not (holds ds c)) (apart cs ds) away in
    apart_here cs ds c k parts (or_cases (same_class k c) (holds cs k) h) (apart_holds cs ds k parts.1)

-- a kind of the first is one of the second
pub within_among : (cs ds : Classes) (kind : TokenKind) → within cs ds ≡ true → among cs kind ≡ true → among ds kind ≡ true
within_among cs ds kind = within_holds cs ds (class_of kind)

-- a kind of the first is none of the second
pub apart_among : (cs ds : Classes) (kind : TokenKind) → apart cs ds ≡ true → among cs kind ≡ true → among ds kind ≡ false
apart_among cs ds kind = apart_holds cs ds (class_of kind)

not_true_false : (a b : Bool) → (a ≡ true → b ≡ true) → b ≡ false → a ≡ false
not_true_false true b f e = let wrong : b ≡ true = f refl in cc
not_true_false false b f e = refl

-- a kind of none of the second is none of the first
pub outside_among : (cs ds : Classes) (kind : TokenKind) → within cs ds ≡ true → among ds kind ≡ false → among cs kind ≡ false
outside_among cs ds kind inside = not_true_false (among cs kind) (among ds kind) (within_among cs ds kind inside)

or_swap : (a b c : Bool) → (a || (b || c)) ≡ ((a || b) || c)
or_swap true b c = refl
or_swap false b c = refl

pub holds-append : (cs ds : Classes) (k : Class) → holds (cs ++ ds) k ≡ (holds cs k || holds ds k)
holds-append [] ds k = refl
holds-append (c ∷ cs) ds k = ap (λ b. same_class k c || b) (holds-append cs ds k) ∙ or_swap (same_class k c) (holds cs k) (holds ds k)

pub among-append : (cs ds : Classes) (kind : TokenKind) → among (cs ++ ds) kind ≡ (among cs kind || among ds kind)
among-append cs ds kind = holds-append cs ds (class_of kind)

or_left : (a b : Bool) → a ≡ true → (a || b) ≡ true
or_left true b e = refl
or_left false b e = cc

or_right : (a b : Bool) → b ≡ true → (a || b) ≡ true
or_right true b e = refl
or_right false b e = e

neither : (a b : Bool) → (a || b) ≡ false → (a ≡ false) × (b ≡ false)
neither true b e = cc
neither false b e = (refl, e)

or_neither : (a b : Bool) → a ≡ false → b ≡ false → (a || b) ≡ false
or_neither true b e f = cc
or_neither false b e f = f

pub in_left : (cs ds : Classes) (kind : TokenKind) → among cs kind ≡ true → among (cs ++ ds) kind ≡ true
in_left cs ds kind h = among-append cs ds kind ∙ or_left (among cs kind) (among ds kind) h

pub in_right : (cs ds : Classes) (kind : TokenKind) → among ds kind ≡ true → among (cs ++ ds) kind ≡ true
in_right cs ds kind h = among-append cs ds kind ∙ or_right (among cs kind) (among ds kind) h

pub in_either : (cs ds : Classes) (kind : TokenKind) → among (cs ++ ds) kind ≡ true → (among cs kind ≡ true) ⊎ (among ds kind ≡ true)
in_either cs ds kind h = or_cases (among cs kind) (among ds kind) (sym (among-append cs ds kind) ∙ h)

pub in_neither : (cs ds : Classes) (kind : TokenKind) → among (cs ++ ds) kind ≡ false → (among cs kind ≡ false) × (among ds kind ≡ false)
in_neither cs ds kind h = neither (among cs kind) (among ds kind) (sym (among-append cs ds kind) ∙ h)

pub out_of_both : (cs ds : Classes) (kind : TokenKind) → among cs kind ≡ false → among ds kind ≡ false → among (cs ++ ds) kind ≡ false
out_of_both cs ds kind h g = among-append cs ds kind ∙ or_neither (among cs kind) (among ds kind) h g

pub apart-nil : (cs : Classes) → apart cs [] ≡ true
apart-nil [] = refl
apart-nil (c ∷ cs) = apart-nil cs

-- ---- tests

or_false : (b : Bool) → b ≡ (b || false)
or_false true = refl
or_false false = refl

pub mark_tests : (m : Mark) → Tests (is_mark m) (a_mark m ∷ [])
mark_tests m (kinds.Mark n) = or_false (same_mark n m)
mark_tests m (kinds.Number true small at) = refl
mark_tests m (kinds.Number false small at) = refl
mark_tests m _ = refl

pub keyword_tests : (w : Keyword) → Tests (is_keyword w) (a_keyword w ∷ [])
keyword_tests w (kinds.Keyword v) = or_false (same_keyword v w)
keyword_tests w (kinds.Number true small at) = refl
keyword_tests w (kinds.Number false small at) = refl
keyword_tests w _ = refl

pub newline_tests : Tests is_newline (a_newline ∷ [])
newline_tests (kinds.Number true small at) = refl
newline_tests (kinds.Number false small at) = refl
newline_tests _ = refl

pub indent_tests : Tests is_indent (an_indent ∷ [])
indent_tests (kinds.Number true small at) = refl
indent_tests (kinds.Number false small at) = refl
indent_tests _ = refl

pub dedent_tests : Tests is_dedent (a_dedent ∷ [])
dedent_tests (kinds.Number true small at) = refl
dedent_tests (kinds.Number false small at) = refl
dedent_tests _ = refl

pub end_tests : Tests is_end (an_end ∷ [])
end_tests (kinds.Number true small at) = refl
end_tests (kinds.Number false small at) = refl
end_tests _ = refl

pub name_tests : Tests (has name_of) (a_name ∷ [])
name_tests (kinds.Number true small at) = refl
name_tests (kinds.Number false small at) = refl
name_tests _ = refl

pub number_tests : Tests (has number_of) (an_integer ∷ a_decimal ∷ [])
number_tests (kinds.Number true small at) = refl
number_tests (kinds.Number false small at) = refl
number_tests _ = refl

pub integer_tests : Tests (has integer_of) (an_integer ∷ [])
integer_tests (kinds.Number true small at) = refl
integer_tests (kinds.Number false small at) = refl
integer_tests _ = refl

pub text_tests : Tests (has text_of) (a_text ∷ [])
text_tests (kinds.Number true small at) = refl
text_tests (kinds.Number false small at) = refl
text_tests _ = refl

pub unit_tests : Tests (has unit_of) (a_name ∷ a_mark marks.Percent ∷ [])
unfolding same_mark
unit_tests (kinds.Mark marks.Percent) = refl
unit_tests (kinds.Mark _) = refl
unit_tests (kinds.Number true small at) = refl
unit_tests (kinds.Number false small at) = refl
unit_tests _ = refl

pub sign_tests : Tests (has sign_of) (a_mark marks.Plus ∷ a_mark marks.Minus ∷ [])
unfolding same_mark
sign_tests (kinds.Mark marks.Plus) = refl
sign_tests (kinds.Mark _) = refl
sign_tests (kinds.Number true small at) = refl
sign_tests (kinds.Number false small at) = refl
sign_tests _ = refl

pub scale_tests : Tests (has scale_of) (a_mark marks.Star ∷ a_mark marks.Slash ∷ [])
unfolding same_mark
scale_tests (kinds.Mark marks.Star) = refl
scale_tests (kinds.Mark _) = refl
scale_tests (kinds.Number true small at) = refl
scale_tests (kinds.Number false small at) = refl
scale_tests _ = refl

pub comparison_tests : Tests (has comparison_of) (a_mark marks.Less ∷ a_mark marks.LessEqual ∷ a_mark marks.Greater ∷ a_mark marks.GreaterEqual ∷ a_keyword keywords.Is ∷ [])
unfolding same_mark same_keyword
comparison_tests (kinds.Mark marks.Less) = refl
comparison_tests (kinds.Mark _) = refl
comparison_tests (kinds.Keyword keywords.Is) = refl
comparison_tests (kinds.Keyword _) = refl
comparison_tests (kinds.Number true small at) = refl
comparison_tests (kinds.Number false small at) = refl
comparison_tests _ = refl

pub truth_tests : Tests (has truth_of) (a_keyword keywords.True ∷ a_keyword keywords.False ∷ [])
unfolding same_keyword
truth_tests (kinds.Keyword keywords.True) = refl
truth_tests (kinds.Keyword _) = refl
truth_tests (kinds.Number true small at) = refl
truth_tests (kinds.Number false small at) = refl
truth_tests _ = refl

pub block_tests : Tests (has block_of) (a_keyword keywords.Module ∷ a_keyword keywords.Component ∷ a_keyword keywords.Interface ∷ [])
unfolding same_keyword
block_tests (kinds.Keyword keywords.Module) = refl
block_tests (kinds.Keyword _) = refl
block_tests (kinds.Number true small at) = refl
block_tests (kinds.Number false small at) = refl
block_tests _ = refl

pub or_tests : (t u : TokenKind → Bool) (cs ds : Classes) → Tests t cs → Tests u ds → Tests (λ kind. t kind || u kind) (cs ++ ds)
or_tests t u cs ds first second kind =
    ap (λ b. b || u kind) (first kind) ∙ ap (λ b. among cs kind || b) (second kind) ∙ sym (among-append cs ds kind)

-- ---- bounds

-- each kind with a value is of one of the classes
abbrev pub Within : {A : Type 0} → (TokenKind → Option A) → Classes → Type 0
Within value cs = (kind : TokenKind) → is_some (value kind) ≡ true → among cs kind ≡ true

pub tests_within : {A : Type 0} (value : TokenKind → Option A) (cs : Classes) → Tests (has value) cs → Within value cs
tests_within value cs tests kind h = sym (tests kind) ∙ h

just_some : (b : Bool) → is_some (if b then Some (tt {0}) else None) ≡ b
just_some true = refl
just_some false = refl

pub just_within : (test : TokenKind → Bool) (cs : Classes) → Tests test cs → Within (just test) cs
just_within test cs tests kind h = sym (tests kind) ∙ sym (just_some (test kind)) ∙ h

pub named_within : {A : Type 0} (value : Name → Option A) → Within (named value) (a_name ∷ [])
named_within value (kinds.Name n) h = refl
named_within value _ h = cc

pub exponent_within : Within exponent_of (an_integer ∷ [])
exponent_within (kinds.Number true small at) h = refl
exponent_within (kinds.Number false small at) h = cc
exponent_within _ h = cc
