-- A single token is its value, written out.
use Rattle.std.proofs.Common.{◌≡◌, ℕ, nat_eq, [], ◌∷◌, Bool, true, false, if◌then◌else◌, Option, Some, None, refl, sym, ap, subst, ◌∙◌, eqb-true, true≢false}
use denote.Enum.Bare.{same_true}
use Rattle.ato_base.specs.contracts.keywords.Mark.{the_type as mark_type}
use Rattle.ato_base.specs.contracts.keywords.Keyword.{the_type as keyword_type}
use Rattle.ato_base.specs.declared.name_table.Name.{Name}
use Rattle.ato_base.specs.declared.places.Span.{Span}
use Rattle.ato_base.specs.declared.keywords.Keyword.{Keyword}
use Rattle.ato_base.specs.declared.keywords.Keyword.TheVariants as keywords
use Rattle.ato_base.specs.declared.keywords.Mark.{Mark}
use Rattle.ato_base.specs.declared.keywords.Mark.TheVariants as marks
use Rattle.ato_base.specs.declared.tokens.TokenKind.{TokenKind}
use Rattle.ato_base.specs.declared.tokens.TokenKind.TheVariants as kinds
use Rattle.ato_ast.specs.declared.names.Number.{Number}
use Rattle.ato_ast.specs.declared.names.Quoted.{Quoted}
use Rattle.ato_ast.specs.declared.exprs.Sign.{Sign}
use Rattle.ato_ast.specs.declared.exprs.Sign.TheVariants as signs
use Rattle.ato_ast.specs.declared.exprs.Scale.{Scale}
use Rattle.ato_ast.specs.declared.exprs.Scale.TheVariants as scales
use Rattle.ato_ast.specs.declared.exprs.Unit.{Unit as WrittenUnit}
use Rattle.ato_ast.specs.declared.exprs.Unit.TheVariants as units
use Rattle.ato_ast.specs.declared.exprs.Choice.{Choice}
use Rattle.ato_ast.specs.declared.exprs.Choice.TheVariants as choices
use Rattle.ato_ast.specs.declared.stmts.Comparison.{Comparison}
use Rattle.ato_ast.specs.declared.stmts.Comparison.TheVariants as comparisons
use Rattle.ato_ast.specs.declared.stmts.Value.TheVariants as values
use Rattle.ato_ast.specs.declared.blocks.BlockKind.{BlockKind}
use Rattle.ato_ast.specs.declared.blocks.BlockKind.TheVariants as blocks
use Rattle.ato_ast.specs.PathKinds.{named_kind, number_kind, quoted_kind}
use Rattle.ato_ast.specs.ExprKinds.{sign_kind, scale_kind, choice_kind, unit_kinds, abs_name}
use Rattle.ato_ast.specs.StmtKinds.{comparison_kind, value_kinds}
use Rattle.ato_ast.specs.FileKinds.{block_kind}
use Rattle.ato_parser.specs.Tokens.{is_end}
use Rattle.ato_parser.specs.Kinds.{same_mark, same_keyword, is_mark, is_keyword, is_newline, is_indent, is_dedent, just, named, name_of, number_of, integer_of, from_one_to_sixteen, exponent_of, text_of, sign_of, scale_of, unit_of, comparison_of, truth_of, block_of, abs_of, choice_of}
use Rattle.ato_parser.specs.Pieces.{one, pure}
use Rattle.ato_parser.specs.TokenPieces.{of_kind, mark, keyword, the_end, named_at, name, text}
use Rattle.ato_parser.proofs.KindsOfPieces.{HasKinds, one_has, then_has, pure_has}

-- ---- tokens without a value

pub false_true : false ≡ true → ⊥
false_true e = true≢false (sym e)

pub none_some : {A : Type 0} {a : A} → None ≡ Some a → ⊥
none_some {A} {a} e = subst holds e tt
  where
    holds : Option A → Type 0
    holds None = Unit {0}
    holds (Some x) = ⊥

pub just_some : (test : TokenKind → Bool) (kind : TokenKind) (a : Unit) → just test kind ≡ Some a → test kind ≡ true
just_some test kind a e = by (test kind) e
  where
    by : (b : Bool) → (if b then Some tt else None) ≡ Some a → b ≡ true
    by true e = refl
    by false e = absurd (none_some e)

pub of_kind_has : (test : TokenKind → Bool) (wanted : TokenKind) → ((kind : TokenKind) → test kind ≡ true → kind ≡ wanted) → HasKinds (of_kind test) (λ _. wanted ∷ [])
of_kind_has test wanted law = one_has (just test) (λ _. wanted) (λ kind a e. sym (law kind (just_some test kind a e)))

pub mark_is : (m : Mark) (kind : TokenKind) → is_mark m kind ≡ true → kind ≡ kinds.Mark m
unfolding same_mark
mark_is m (kinds.Mark n) e = ap kinds.Mark (same_true mark_type tt n m e)
mark_is m _ e = absurd (false_true e)

pub keyword_is : (w : Keyword) (kind : TokenKind) → is_keyword w kind ≡ true → kind ≡ kinds.Keyword w
unfolding same_keyword
keyword_is w (kinds.Keyword v) e = ap kinds.Keyword (same_true keyword_type tt v w e)
keyword_is w _ e = absurd (false_true e)

newline_is : (kind : TokenKind) → is_newline kind ≡ true → kind ≡ kinds.Newline
newline_is kinds.Newline e = refl
newline_is _ e = absurd (false_true e)

indent_is : (kind : TokenKind) → is_indent kind ≡ true → kind ≡ kinds.Indent
indent_is kinds.Indent e = refl
indent_is _ e = absurd (false_true e)

dedent_is : (kind : TokenKind) → is_dedent kind ≡ true → kind ≡ kinds.Dedent
dedent_is kinds.Dedent e = refl
dedent_is _ e = absurd (false_true e)

end_is : (kind : TokenKind) → is_end kind ≡ true → kind ≡ kinds.End
end_is kinds.End e = refl
end_is _ e = absurd (false_true e)

pub mark_has : (m : Mark) → HasKinds (mark m) (λ _. kinds.Mark m ∷ [])
mark_has m = of_kind_has (is_mark m) (kinds.Mark m) (mark_is m)

pub keyword_has : (w : Keyword) → HasKinds (keyword w) (λ _. kinds.Keyword w ∷ [])
keyword_has w = of_kind_has (is_keyword w) (kinds.Keyword w) (keyword_is w)

pub newline_has : HasKinds (of_kind is_newline) (λ _. kinds.Newline ∷ [])
newline_has = of_kind_has is_newline kinds.Newline newline_is

pub indent_has : HasKinds (of_kind is_indent) (λ _. kinds.Indent ∷ [])
indent_has = of_kind_has is_indent kinds.Indent indent_is

pub dedent_has : HasKinds (of_kind is_dedent) (λ _. kinds.Dedent ∷ [])
dedent_has = of_kind_has is_dedent kinds.Dedent dedent_is

pub end_has : HasKinds the_end (λ _. kinds.End ∷ [])
end_has = of_kind_has is_end kinds.End end_is

-- ---- names, numbers, strings

-- what a value of one kind is
some_inj : {A : Type 0} (d a b : A) → Some a ≡ Some b → a ≡ b
some_inj {A} d a b e = ap (from d) e
  where
    from : A → Option A → A
    from d None = d
    from d (Some x) = x

from_some : {A : Type 0} (a b : A) (f : A → TokenKind) → Some a ≡ Some b → f b ≡ f a
from_some a b f e = ap f (sym (some_inj a a b e))

name_is : (kind : TokenKind) (n : Name) → name_of kind ≡ Some n → kinds.Name n ≡ kind
name_is (kinds.Name m) n e = from_some m n kinds.Name e
name_is _ n e = absurd (none_some e)

number_is : (kind : TokenKind) (n : Number) → number_of kind ≡ Some n → number_kind n ≡ kind
number_is (kinds.Number whole small at) n e = from_some (record { whole = whole; small = small; at = at }) n number_kind e
number_is _ n e = absurd (none_some e)

integer_is : (kind : TokenKind) (n : Number) → integer_of kind ≡ Some n → number_kind n ≡ kind
integer_is (kinds.Number true small at) n e = from_some (record { whole = true; small = small; at = at }) n number_kind e
integer_is (kinds.Number false small at) n e = absurd (none_some e)
integer_is _ n e = absurd (none_some e)

exponent_is : (kind : TokenKind) (n : Number) → exponent_of kind ≡ Some n → number_kind n ≡ kind
exponent_is (kinds.Number true small at) n e = by (from_one_to_sixteen small) e
  where
    by : (b : Bool) → (if b then Some (record { whole = true; small = small; at = at }) else None) ≡ Some n → number_kind n ≡ kinds.Number true small at
    by true e = from_some (record { whole = true; small = small; at = at }) n number_kind e
    by false e = absurd (none_some e)
exponent_is (kinds.Number false small at) n e = absurd (none_some e)
exponent_is _ n e = absurd (none_some e)

text_is : (kind : TokenKind) (s : Span) → text_of kind ≡ Some s → kinds.Str s ≡ kind
text_is (kinds.Str contents) s e = from_some contents s kinds.Str e
text_is _ s e = absurd (none_some e)

pub number_has : HasKinds (one number_of) (λ x. number_kind x.0 ∷ [])
number_has = one_has number_of number_kind number_is

pub integer_has : HasKinds (one integer_of) (λ x. number_kind x.0 ∷ [])
integer_has = one_has integer_of number_kind integer_is

pub exponent_has : HasKinds (one exponent_of) (λ x. number_kind x.0 ∷ [])
exponent_has = one_has exponent_of number_kind exponent_is

pub name_has : HasKinds name (λ n. named_kind n ∷ [])
name_has = then_has (λ l. l) (one name_of) (λ n. pure (named_at n)) (λ x. kinds.Name x.0 ∷ []) (λ n. named_kind n ∷ [])
    (one_has name_of kinds.Name name_is)
    (λ n. pure_has (λ rest. kinds.Name n.0 ∷ rest) (named_at n) (λ m. named_kind m ∷ []) refl)

quoted_at : Span × Span → Quoted
quoted_at s = record { contents = s.0; at = s.1 }

pub text_has : HasKinds text (λ s. quoted_kind s ∷ [])
unfolding quoted_at
text_has = then_has (λ l. l) (one text_of) (λ s. pure (quoted_at s)) (λ x. kinds.Str x.0 ∷ []) (λ s. quoted_kind s ∷ [])
    (one_has text_of kinds.Str text_is)
    (λ s. pure_has (λ rest. kinds.Str s.0 ∷ rest) (quoted_at s) (λ q. quoted_kind q ∷ []) refl)

-- ---- kinds with a meaning of their own

sign_is : (kind : TokenKind) (s : Sign) → sign_of kind ≡ Some s → sign_kind s ≡ kind
sign_is (kinds.Mark marks.Plus) s e = from_some signs.Plus s sign_kind e
sign_is (kinds.Mark marks.Minus) s e = from_some signs.Minus s sign_kind e
sign_is (kinds.Mark _) s e = absurd (none_some e)
sign_is _ s e = absurd (none_some e)

scale_is : (kind : TokenKind) (s : Scale) → scale_of kind ≡ Some s → scale_kind s ≡ kind
scale_is (kinds.Mark marks.Star) s e = from_some scales.Times s scale_kind e
scale_is (kinds.Mark marks.Slash) s e = from_some scales.Over s scale_kind e
scale_is (kinds.Mark _) s e = absurd (none_some e)
scale_is _ s e = absurd (none_some e)

pub unit_kind : WrittenUnit → TokenKind
unit_kind (units.Name n) = kinds.Name n
unit_kind units.Percent = kinds.Mark marks.Percent

unit_is : (kind : TokenKind) (u : WrittenUnit) → unit_of kind ≡ Some u → unit_kind u ≡ kind
unfolding unit_kind
unit_is (kinds.Name n) u e = from_some (units.Name n) u unit_kind e
unit_is (kinds.Mark marks.Percent) u e = from_some units.Percent u unit_kind e
unit_is (kinds.Mark _) u e = absurd (none_some e)
unit_is _ u e = absurd (none_some e)

pub unit_kinds_is : (u : WrittenUnit) → unit_kinds (Some u) ≡ unit_kind u ∷ []
unfolding unit_kind
unit_kinds_is (units.Name n) = refl
unit_kinds_is units.Percent = refl

comparison_is : (kind : TokenKind) (c : Comparison) → comparison_of kind ≡ Some c → comparison_kind c ≡ kind
comparison_is (kinds.Mark marks.Less) c e = from_some comparisons.Less c comparison_kind e
comparison_is (kinds.Mark marks.LessEqual) c e = from_some comparisons.LessEqual c comparison_kind e
comparison_is (kinds.Mark marks.Greater) c e = from_some comparisons.Greater c comparison_kind e
comparison_is (kinds.Mark marks.GreaterEqual) c e = from_some comparisons.GreaterEqual c comparison_kind e
comparison_is (kinds.Mark _) c e = absurd (none_some e)
comparison_is (kinds.Keyword keywords.Is) c e = from_some comparisons.Is c comparison_kind e
comparison_is (kinds.Keyword _) c e = absurd (none_some e)
comparison_is _ c e = absurd (none_some e)

pub truth_kind : Bool → TokenKind
truth_kind true = kinds.Keyword keywords.True
truth_kind false = kinds.Keyword keywords.False

truth_is : (kind : TokenKind) (t : Bool) → truth_of kind ≡ Some t → truth_kind t ≡ kind
unfolding truth_kind
truth_is (kinds.Keyword keywords.True) t e = from_some true t truth_kind e
truth_is (kinds.Keyword keywords.False) t e = from_some false t truth_kind e
truth_is (kinds.Keyword _) t e = absurd (none_some e)
truth_is _ t e = absurd (none_some e)

pub value_kinds_is : (t : Bool) (at : Span) → value_kinds (values.Truth t at) ≡ truth_kind t ∷ []
unfolding truth_kind
value_kinds_is true at = refl
value_kinds_is false at = refl

block_is : (kind : TokenKind) (b : BlockKind) → block_of kind ≡ Some b → block_kind b ≡ kind
block_is (kinds.Keyword keywords.Module) b e = from_some blocks.Module b block_kind e
block_is (kinds.Keyword keywords.Component) b e = from_some blocks.Component b block_kind e
block_is (kinds.Keyword keywords.Interface) b e = from_some blocks.Interface b block_kind e
block_is (kinds.Keyword _) b e = absurd (none_some e)
block_is _ b e = absurd (none_some e)

-- ---- the names of functions

name_by : (n : Name) (k : ℕ) → nat_eq n.0 k ≡ true → kinds.Name (record { 0 = k }) ≡ kinds.Name n
name_by n k e = ap (λ (m : ℕ). kinds.Name (record { 0 = m })) (sym (eqb-true n.0 k e))

abs_is : (kind : TokenKind) (u : Unit) → named abs_of kind ≡ Some u → kinds.Name abs_name ≡ kind
abs_is (kinds.Name n) u e = by (nat_eq n.0 0) refl e
  where
    by : (b : Bool) → nat_eq n.0 0 ≡ b → (if b then Some tt else None) ≡ Some u → kinds.Name abs_name ≡ kinds.Name n
    by true same f = name_by n 0 same
    by false same f = absurd (none_some f)
abs_is _ u e = absurd (none_some e)

choice_is : (kind : TokenKind) (c : Choice) → named choice_of kind ≡ Some c → choice_kind c ≡ kind
choice_is (kinds.Name n) c e = by_max (nat_eq n.0 1) refl e
  where
    by_min : (b : Bool) → nat_eq n.0 2 ≡ b → (if b then Some choices.Min else None) ≡ Some c → choice_kind c ≡ kinds.Name n
    by_min true same f = from_some choices.Min c choice_kind f ∙ name_by n 2 same
    by_min false same f = absurd (none_some f)

    by_max : (b : Bool) → nat_eq n.0 1 ≡ b → (if b then Some choices.Max else (if nat_eq n.0 2 then Some choices.Min else None)) ≡ Some c → choice_kind c ≡ kinds.Name n
    by_max true same f = from_some choices.Max c choice_kind f ∙ name_by n 1 same
    by_max false same f = by_min (nat_eq n.0 2) refl f
choice_is _ c e = absurd (none_some e)

pub sign_has : HasKinds (one sign_of) (λ x. sign_kind x.0 ∷ [])
sign_has = one_has sign_of sign_kind sign_is

pub scale_has : HasKinds (one scale_of) (λ x. scale_kind x.0 ∷ [])
scale_has = one_has scale_of scale_kind scale_is

pub unit_has : HasKinds (one unit_of) (λ x. unit_kind x.0 ∷ [])
unit_has = one_has unit_of unit_kind unit_is

pub comparison_has : HasKinds (one comparison_of) (λ x. comparison_kind x.0 ∷ [])
comparison_has = one_has comparison_of comparison_kind comparison_is

pub truth_has : HasKinds (one truth_of) (λ x. truth_kind x.0 ∷ [])
truth_has = one_has truth_of truth_kind truth_is

pub block_has : HasKinds (one block_of) (λ x. block_kind x.0 ∷ [])
block_has = one_has block_of block_kind block_is

pub abs_has : HasKinds (one (named abs_of)) (λ _. kinds.Name abs_name ∷ [])
abs_has = one_has (named abs_of) (λ _. kinds.Name abs_name) abs_is

pub choice_has : HasKinds (one (named choice_of)) (λ x. choice_kind x.0 ∷ [])
choice_has = one_has (named choice_of) choice_kind choice_is
