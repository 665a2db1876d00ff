-- Behind each `**` of an expression stands a whole number from 1 to 16.
use Rattle.std.proofs.Common.{◌≡◌, ℕ, zero, suc, [], ◌∷◌, ◌++◌, Bool, true, false, if◌then◌else◌, Option, Some, None, is_some, refl, sym, ap, subst, ◌∙◌}
use Rattle.ato_base.specs.declared.places.Span.{Span}
use Rattle.ato_base.specs.declared.keywords.Keyword.{Keyword}
use Rattle.ato_base.specs.declared.keywords.Keyword.TheVariants as keywords
use Rattle.ato_base.specs.declared.keywords.Mark.{Mark}
use Rattle.ato_base.specs.declared.keywords.Mark.TheVariants as marks
use Rattle.ato_base.specs.declared.tokens.TokenKind.{TokenKind}
use Rattle.ato_base.specs.declared.tokens.TokenKind.TheVariants as kinds
use Rattle.ato_ast.specs.declared.exprs.Expr.{Expr}
use Rattle.ato_parser.specs.Tokens.{Tokens, token}
use Rattle.ato_parser.specs.Kinds.{is_mark, is_keyword, just, named, name_of, number_of, integer_of, exponent_of, sign_of, scale_of, unit_of, abs_of, choice_of}
use Rattle.ato_parser.specs.Pieces.{Piece, one_token, nothing, then_spells, the_one, the_other, no_more, one_more, placed_spells, pure, never, one, ◌>>=◌, ◌>>◌, ◌or◌, many, placed, optional}
use Rattle.ato_parser.specs.TokenPieces.{mark, keyword, name}
use Rattle.ato_parser.specs.Expressions.{path, measured, quantity, literal, atom, power, product, sum_over, sum}
use Rattle.ato_parser.proofs.RowTokens.{row, word, digits, fraction, sign}
use Rattle.ato_parser.proofs.KindsOfTokens.{none_some, just_some, mark_is, keyword_is}

-- whether an exponent has to come next, or did not come
pub data State : Type 0 where
  fine : State
  raised : State
  bad : State

abbrev pub is_power : TokenKind → Bool
is_power (kinds.Mark marks.Power) = true
is_power _ = false

abbrev pub step : State → TokenKind → State
step fine kind = if is_power kind then raised else fine
step raised kind = if is_some (exponent_of kind) then fine else bad
step bad kind = bad

abbrev pub after : State → Tokens → State
after s [] = s
after s (t ∷ ts) = after (step s t.kind) ts

-- behind each `**` of such tokens stands an exponent
abbrev pub Raises : {A : Type 0} → Piece A → Type 0
Raises {A} p = (a : A) (ts : Tokens) → p.Spells a ts → after fine ts ≡ fine

after_both : (s : State) (ts us : Tokens) → after s (ts ++ us) ≡ after (after s ts) us
after_both s [] us = refl
after_both s (t ∷ ts) us = after_both (step s t.kind) ts us

both : (ts us : Tokens) → after fine ts ≡ fine → after fine us ≡ fine → after fine (ts ++ us) ≡ fine
both ts us e f = after_both fine ts us ∙ ap (λ s. after s us) e ∙ f

-- ---- pieces

one_raises : {A : Type 0} (value : TokenKind → Option A) → ((kind : TokenKind) (a : A) → value kind ≡ Some a → is_power kind ≡ false) → Raises (one value)
one_raises value law x ts (one_token {a} kind at e) = ap (λ (b : Bool). if b then raised else fine) (law kind a e)

pure_raises : {A : Type 0} (a : A) → Raises (pure a)
pure_raises a x ts nothing = refl

then_raises : {A B : Type 0} (p : Piece A) (q : A → Piece B) → Raises p → ((a : A) → Raises (q a)) → Raises (p >>= q)
then_raises p q h k b vs (then_spells {a} {ts} {us} d e) = both ts us (h a ts d) (k a b us e)

or_raises : {A : Type 0} (p q : Piece A) → Raises p → Raises q → Raises (p or q)
or_raises p q h k a ts (the_one d) = h a ts d
or_raises p q h k a ts (the_other d) = k a ts d

many_raises : {A : Type 0} (p : Piece A) → Raises p → Raises (many p)
many_raises p h xs vs no_more = refl
many_raises p h xs vs (one_more {a} {more} {ts} {us} d e) = both ts us (h a ts d) (many_raises p h more us e)

placed_raises : {A : Type 0} (p : Piece (Span → A)) → Raises p → Raises (placed p)
placed_raises p h a ts (placed_spells {f} d) = h f ts d

optional_raises : {A : Type 0} (p : Piece A) → Raises p → Raises (optional p)
optional_raises p h = or_raises _ _ (then_raises p (λ a. pure (Some a)) h (λ a. pure_raises (Some a))) (pure_raises None)

-- ---- tokens

mark_raises : (m : Mark) → is_power (kinds.Mark m) ≡ false → Raises (mark m)
mark_raises m e = one_raises (just (is_mark m)) (λ kind a f. ap is_power (mark_is m kind (just_some (is_mark m) kind a f)) ∙ e)

keyword_raises : (w : Keyword) → Raises (keyword w)
keyword_raises w = one_raises (just (is_keyword w)) (λ kind a f. ap is_power (keyword_is w kind (just_some (is_keyword w) kind a f)))

-- a value that the mark `**` has not
valued : {A : Type 0} (value : TokenKind → Option A) → value (kinds.Mark marks.Power) ≡ None → Raises (one value)
valued {A} value e = one_raises value law
  where
    law : (kind : TokenKind) (a : A) → value kind ≡ Some a → is_power kind ≡ false
    law (kinds.Mark marks.Power) a f = absurd (none_some (sym e ∙ f))
    law (kinds.Mark _) a f = refl
    law _ a f = refl

name_raises : Raises name
name_raises = then_raises _ _ (valued name_of refl) (λ n. pure_raises _)

-- `**` and its exponent together
exponent_raises : Raises (mark marks.Power >> one exponent_of)
exponent_raises x vs (then_spells {ts} {us} (one_token {a} k at e) (one_token {a = n} kind place f)) =
    ap (λ (m : TokenKind). after (step fine m) (token kind place ∷ [])) (mark_is marks.Power k (just_some (is_mark marks.Power) k a e))
    ∙ ap (λ (b : Bool). if b then fine else bad) (ap is_some f)

-- ---- expressions

path_raises : Raises path
path_raises = placed_raises _ (then_raises _ _ name_raises λ first. then_raises _ _
    (then_raises _ _ (many_raises _ (then_raises _ _ (mark_raises marks.Dot refl) (λ _. name_raises)))
    λ more. then_raises _ _ (optional_raises _ (then_raises _ _ (mark_raises marks.Dot refl) (λ _. valued integer_of refl))) λ last. pure_raises _)
    λ rest. pure_raises _)

measured_raises : (minus : Bool) → Raises (measured minus)
measured_raises minus = then_raises _ _ (valued number_of refl) λ n. then_raises _ _ (optional_raises _ (valued unit_of refl)) λ u. pure_raises _

quantity_raises : Raises quantity
quantity_raises = placed_raises _ (then_raises _ _ (or_raises _ _ (then_raises _ _ (mark_raises marks.Minus refl) (λ _. pure_raises true)) (pure_raises false)) measured_raises)

literal_raises : Raises literal
literal_raises = then_raises _ _ quantity_raises λ a. or_raises _ _
    (then_raises _ _ (keyword_raises keywords.To) λ _. then_raises _ _ quantity_raises λ b. pure_raises _)
    (or_raises _ _ (then_raises _ _ (mark_raises marks.PlusMinus refl) λ _. then_raises _ _ (placed_raises _ (measured_raises false)) λ b. pure_raises _) (pure_raises _))

module _ (opening : Piece (Unit × Span)) (inner : Piece Expr) (opens : Raises opening) (inside : Raises inner) where
  closing : {A : Type 0} (a : A) → Raises (mark marks.RightParenthesis >> pure a)
  closing a = then_raises _ _ (mark_raises marks.RightParenthesis refl) (λ _. pure_raises a)

  atom_raises : Raises (atom opening inner)
  atom_raises = placed_raises _ (or_raises _ _ (then_raises _ _ path_raises (λ p. pure_raises _))
      (or_raises _ _ (then_raises _ _ literal_raises (λ l. pure_raises _))
      (or_raises _ _ (then_raises _ _ opens λ _. then_raises _ _ inside λ x. closing _)
      (or_raises _ _ (then_raises _ _ (valued (named abs_of) refl) λ _. then_raises _ _ opens λ _. then_raises _ _ inside λ x. closing _)
      (then_raises _ _ (valued (named choice_of) refl) λ which. then_raises _ _ opens λ _. then_raises _ _ inside
      λ first. then_raises _ _ (many_raises _ (then_raises _ _ (mark_raises marks.Comma refl) (λ _. inside))) λ more. closing _)))))

  power_raises : Raises (power opening inner)
  power_raises = placed_raises _ (then_raises _ _ atom_raises λ base. then_raises _ _ (optional_raises _ exponent_raises) λ n. pure_raises _)

  product_raises : Raises (product opening inner)
  product_raises = placed_raises _ (then_raises _ _ power_raises λ first. then_raises _ _
      (many_raises _ (then_raises _ _ (valued scale_of refl) λ s. then_raises _ _ power_raises λ x. pure_raises _)) λ more. pure_raises _)

  sum_over_raises : Raises (sum_over opening inner)
  sum_over_raises = placed_raises _ (then_raises _ _ product_raises λ first. then_raises _ _
      (many_raises _ (then_raises _ _ (valued sign_of refl) λ s. then_raises _ _ product_raises λ x. pure_raises _)) λ more. pure_raises _)

pub sum_raises : (depth : ℕ) → Raises (sum depth)
unfolding sum
sum_raises zero = sum_over_raises never never (λ a ts d. absurd d) (λ a ts d. absurd d)
sum_raises (suc depth) = sum_over_raises (mark marks.LeftParenthesis) (sum depth) (mark_raises marks.LeftParenthesis refl) (sum_raises depth)

-- ---- worked rows: nothing is spelled so, however many parentheses may stand

bad_not_fine : bad ≡ fine → ⊥
bad_not_fine e = subst is_bad e tt
  where
    is_bad : State → Type 0
    is_bad bad = Unit {0}
    is_bad _ = ⊥

-- x ** 17
pub no_seventeen : (depth : ℕ) (x : Expr) → (sum depth).Spells x (row (word 5 ∷ sign marks.Power ∷ digits 17 ∷ [])) → ⊥
no_seventeen depth x d = bad_not_fine (sum_raises depth x _ d)

-- x ** 0
pub no_zero : (depth : ℕ) (x : Expr) → (sum depth).Spells x (row (word 5 ∷ sign marks.Power ∷ digits 0 ∷ [])) → ⊥
no_zero depth x d = bad_not_fine (sum_raises depth x _ d)

-- x ** 1.5
pub no_point : (depth : ℕ) (x : Expr) → (sum depth).Spells x (row (word 5 ∷ sign marks.Power ∷ fraction 3 ∷ [])) → ⊥
no_point depth x d = bad_not_fine (sum_raises depth x _ d)

-- x ** y
pub no_name : (depth : ℕ) (x : Expr) → (sum depth).Spells x (row (word 5 ∷ sign marks.Power ∷ word 6 ∷ [])) → ⊥
no_name depth x d = bad_not_fine (sum_raises depth x _ d)
