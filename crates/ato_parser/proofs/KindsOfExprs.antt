-- Paths, literals and expressions are written out as the tokens that spell them.
use Rattle.std.proofs.Common.{◌≡◌, ℕ, zero, suc, List, [], ◌∷◌, ◌++◌, Bool, false, Option, Some, None, refl, sym, ap, ◌∙◌, append_assoc, append-nil}
use Rattle.ato_base.specs.declared.places.Span.{Span}
use Rattle.ato_base.specs.declared.keywords.Keyword.TheVariants as keywords
use Rattle.ato_base.specs.declared.keywords.Mark.TheVariants as marks
use Rattle.ato_base.specs.declared.tokens.TokenKind.TheVariants as kinds
use Rattle.ato_ast.specs.declared.names.Named.{Named}
use Rattle.ato_ast.specs.declared.names.Number.{Number}
use Rattle.ato_ast.specs.declared.exprs.Sign.{Sign}
use Rattle.ato_ast.specs.declared.exprs.Scale.{Scale}
use Rattle.ato_ast.specs.declared.exprs.Unit.{Unit as WrittenUnit}
use Rattle.ato_ast.specs.declared.exprs.Choice.{Choice}
use Rattle.ato_ast.specs.declared.exprs.Part.{Part}
use Rattle.ato_ast.specs.declared.exprs.Literal.TheVariants as literals
use Rattle.ato_ast.specs.declared.exprs.Expr.{Expr}
use Rattle.ato_ast.specs.declared.exprs.Expr.TheVariants as exprs
use Rattle.ato_ast.specs.PathKinds.{Kinds, named_kind, number_kind, path_kinds}
use Rattle.ato_ast.specs.ExprKinds.{sign_kind, scale_kind, choice_kind, minus_kinds, unit_kinds, part_kinds, literal_kinds, expr_kinds, signed_kinds, scaled_kinds, listed_kinds, abs_name}
use Rattle.ato_ast.proofs.ExprKindLaws.{sum_kinds, product_kinds, power_kinds, group_kinds, abs_kinds, choice_kinds, path_expr_kinds, literal_expr_kinds}
use Rattle.ato_parser.specs.Kinds.{integer_of}
use Rattle.ato_parser.specs.Pieces.{Piece, pure, never, one, ◌>>=◌, ended}
use Rattle.ato_parser.specs.TokenPieces.{mark, name}
use Rattle.ato_parser.specs.Expressions.{path_of, path, unit_written, part_of, measured, quantity, tolerance, literal, sum_of, product_of, power_of, group, absolute, chosen, atom, power, product, sum_over, sum}
use Rattle.ato_parser.proofs.KindsOfPieces.{HasKindsIn, HasKinds, HasKindsAt, pure_has, then_has, or_has, many_has, placed_has, maybe, optional_has, flag_has, behind, behind_has, ended_kinds, ended_has, never_has}
use Rattle.ato_parser.proofs.KindsOfTokens.{mark_has, keyword_has, number_has, integer_has, exponent_has, name_has, unit_kind, unit_has, unit_kinds_is, sign_has, scale_has, abs_has, choice_has}

-- ---- paths

-- what stands behind the first name of a path
abbrev rest_kinds : List Named × Option (Number × Span) → Kinds
rest_kinds = ended_kinds (kinds.Mark marks.Dot ∷ []) (λ (n : Named). named_kind n ∷ []) (λ (x : Number × Span). number_kind x.0 ∷ [])

path_of_kinds : (first : Named) (rest : List Named × Option (Number × Span)) (at : Span) → path_kinds (path_of first rest at) ≡ named_kind first ∷ rest_kinds rest
unfolding path_kinds
path_of_kinds first (more, None) at = refl
path_of_kinds first (more, Some x) at = refl

path_built_has : (at : Span) → HasKinds (name >>= λ first. ended (mark marks.Dot) name (one integer_of) >>= λ rest. pure (path_of first rest)) (λ f. path_kinds (f at))
path_built_has at = then_has (λ l. l) _ _ (λ n. named_kind n ∷ []) _ name_has
    λ first. then_has (λ l. named_kind first ∷ l) _ _ rest_kinds _ (ended_has _ _ _ (kinds.Mark marks.Dot ∷ []) (λ (n : Named). named_kind n ∷ []) (λ (x : Number × Span). number_kind x.0 ∷ []) (mark_has marks.Dot) name_has integer_has)
    λ rest. pure_has (λ l. named_kind first ∷ (rest_kinds rest ++ l)) _ _ (path_of_kinds first rest at ∙ ap (λ l. named_kind first ∷ l) (sym (append-nil (rest_kinds rest))))

pub path_has : HasKinds path path_kinds
path_has = placed_has _ path_kinds path_built_has

-- ---- literals

unit_written_kinds : (u : Option (WrittenUnit × Span)) → unit_kinds (unit_written u) ≡ maybe (λ (x : WrittenUnit × Span). unit_kind x.0 ∷ []) u
unit_written_kinds None = refl
unit_written_kinds (Some u) = unit_kinds_is u.0

part_of_kinds : (minus : Bool) (n : Number × Span) (u : Option (WrittenUnit × Span)) (at : Span)
    → part_kinds (part_of minus n u at) ≡ minus_kinds minus ++ (number_kind n.0 ∷ (maybe (λ (x : WrittenUnit × Span). unit_kind x.0 ∷ []) u ++ []))
unfolding part_kinds
part_of_kinds minus n u at = ap (λ l. minus_kinds minus ++ (number_kind n.0 ∷ l)) (unit_written_kinds u ∙ sym (append-nil _))

measured_has : (minus : Bool) (at : Span) → HasKindsIn (λ l. minus_kinds minus ++ l) (measured minus) (λ f. part_kinds (f at))
measured_has minus at = then_has (λ l. minus_kinds minus ++ l) _ _ _ _ number_has
    λ n. then_has (λ l. minus_kinds minus ++ (number_kind n.0 ∷ l)) _ _ _ _ (optional_has _ _ unit_has)
    λ u. pure_has (λ l. minus_kinds minus ++ (number_kind n.0 ∷ (maybe (λ (x : WrittenUnit × Span). unit_kind x.0 ∷ []) u ++ l))) _ _ (part_of_kinds minus n u at)

pub quantity_has : HasKinds quantity part_kinds
quantity_has = placed_has _ part_kinds λ at. then_has (λ l. l) _ _ minus_kinds _ (flag_has _ (kinds.Mark marks.Minus ∷ []) minus_kinds refl refl (mark_has marks.Minus)) λ minus. measured_has minus at

pub tolerance_has : HasKinds tolerance part_kinds
tolerance_has = placed_has _ part_kinds (measured_has false)

to_is : (a b : Part) → literal_kinds (literals.To a b) ≡ part_kinds a ++ (kinds.Keyword keywords.To ∷ (part_kinds b ++ []))
unfolding literal_kinds
to_is a b = ap (λ l. part_kinds a ++ (kinds.Keyword keywords.To ∷ l)) (sym (append-nil (part_kinds b)))

about_is : (a b : Part) → literal_kinds (literals.About a b) ≡ part_kinds a ++ (kinds.Mark marks.PlusMinus ∷ (part_kinds b ++ []))
unfolding literal_kinds
about_is a b = ap (λ l. part_kinds a ++ (kinds.Mark marks.PlusMinus ∷ l)) (sym (append-nil (part_kinds b)))

one_is : (a : Part) → literal_kinds (literals.One a) ≡ part_kinds a ++ []
unfolding literal_kinds
one_is a = sym (append-nil (part_kinds a))

pub literal_has : HasKinds literal literal_kinds
literal_has = then_has (λ l. l) _ _ part_kinds _ quantity_has
    λ a. or_has (λ l. part_kinds a ++ l) _ _ _
    (then_has (λ l. part_kinds a ++ l) _ _ _ _ (keyword_has keywords.To)
    λ _. then_has (λ l. part_kinds a ++ (kinds.Keyword keywords.To ∷ l)) _ _ part_kinds _ quantity_has
    λ b. pure_has (λ l. part_kinds a ++ (kinds.Keyword keywords.To ∷ (part_kinds b ++ l))) _ _ (to_is a b))
    (or_has (λ l. part_kinds a ++ l) _ _ _
    (then_has (λ l. part_kinds a ++ l) _ _ _ _ (mark_has marks.PlusMinus)
    λ _. then_has (λ l. part_kinds a ++ (kinds.Mark marks.PlusMinus ∷ l)) _ _ part_kinds _ tolerance_has
    λ b. pure_has (λ l. part_kinds a ++ (kinds.Mark marks.PlusMinus ∷ (part_kinds b ++ l))) _ _ (about_is a b))
    (pure_has (λ l. part_kinds a ++ l) _ _ (one_is a)))

-- ---- expressions

sum_of_kinds : (first : Expr) (more : List (Sign × Expr)) (at : Span) → expr_kinds (sum_of first more at) ≡ expr_kinds first ++ (signed_kinds more ++ [])
sum_of_kinds first [] at = sym (append-nil (expr_kinds first))
sum_of_kinds first (x ∷ xs) at = sum_kinds first (x ∷ xs) at ∙ ap (λ l. expr_kinds first ++ l) (sym (append-nil (signed_kinds (x ∷ xs))))

product_of_kinds : (first : Expr) (more : List (Scale × Expr)) (at : Span) → expr_kinds (product_of first more at) ≡ expr_kinds first ++ (scaled_kinds more ++ [])
product_of_kinds first [] at = sym (append-nil (expr_kinds first))
product_of_kinds first (x ∷ xs) at = product_kinds first (x ∷ xs) at ∙ ap (λ l. expr_kinds first ++ l) (sym (append-nil (scaled_kinds (x ∷ xs))))

-- the kinds of an exponent
abbrev exponent_kinds : Option (Number × Span) → Kinds
exponent_kinds = maybe (behind (kinds.Mark marks.Power ∷ []) (λ (x : Number × Span). number_kind x.0 ∷ []))

power_of_kinds : (base : Expr) (n : Option (Number × Span)) (at : Span) → expr_kinds (power_of base n at) ≡ expr_kinds base ++ (exponent_kinds n ++ [])
power_of_kinds base None at = sym (append-nil (expr_kinds base))
power_of_kinds base (Some n) at = power_kinds base n.0 at

chosen_kinds : (which : Choice) (first : Expr) (more : List Expr) (at : Span)
    → expr_kinds (exprs.Choice which first more at) ≡ choice_kind which ∷ kinds.Mark marks.LeftParenthesis ∷ (expr_kinds first ++ (listed_kinds more ++ kinds.Mark marks.RightParenthesis ∷ []))
chosen_kinds which first more at = choice_kinds which first more at
    ∙ ap (λ l. choice_kind which ∷ kinds.Mark marks.LeftParenthesis ∷ l) (append_assoc (expr_kinds first) (listed_kinds more) (kinds.Mark marks.RightParenthesis ∷ []))

-- Over the open parenthesis and the expressions inside of it.
module _ (opening : Piece (Unit × Span)) (inner : Piece Expr) (opens : HasKinds opening (λ _. kinds.Mark marks.LeftParenthesis ∷ [])) (inside : HasKinds inner expr_kinds) where
  group_has : HasKindsAt (group opening inner) expr_kinds
  group_has at = then_has (λ l. l) _ _ _ _ opens
      λ _. then_has (λ l. kinds.Mark marks.LeftParenthesis ∷ l) _ _ expr_kinds _ inside
      λ x. then_has (λ l. kinds.Mark marks.LeftParenthesis ∷ (expr_kinds x ++ l)) _ _ _ _ (mark_has marks.RightParenthesis)
      λ _. pure_has (λ l. kinds.Mark marks.LeftParenthesis ∷ (expr_kinds x ++ kinds.Mark marks.RightParenthesis ∷ l)) _ _ (group_kinds x at)

  absolute_has : HasKindsAt (absolute opening inner) expr_kinds
  absolute_has at = then_has (λ l. l) _ _ _ _ abs_has
      λ _. then_has (λ l. kinds.Name abs_name ∷ l) _ _ _ _ opens
      λ _. then_has (λ l. kinds.Name abs_name ∷ kinds.Mark marks.LeftParenthesis ∷ l) _ _ expr_kinds _ inside
      λ x. then_has (λ l. kinds.Name abs_name ∷ kinds.Mark marks.LeftParenthesis ∷ (expr_kinds x ++ l)) _ _ _ _ (mark_has marks.RightParenthesis)
      λ _. pure_has (λ l. kinds.Name abs_name ∷ kinds.Mark marks.LeftParenthesis ∷ (expr_kinds x ++ kinds.Mark marks.RightParenthesis ∷ l)) _ _ (abs_kinds x at)

  chosen_has : HasKindsAt (chosen opening inner) expr_kinds
  chosen_has at = then_has (λ l. l) _ _ _ _ choice_has
      λ which. then_has (λ l. choice_kind which.0 ∷ l) _ _ _ _ opens
      λ _. then_has (λ l. choice_kind which.0 ∷ kinds.Mark marks.LeftParenthesis ∷ l) _ _ expr_kinds _ inside
      λ first. then_has (λ l. choice_kind which.0 ∷ kinds.Mark marks.LeftParenthesis ∷ (expr_kinds first ++ l)) _ _ listed_kinds _
      (many_has _ (behind (kinds.Mark marks.Comma ∷ []) expr_kinds) (behind_has _ _ (kinds.Mark marks.Comma ∷ []) expr_kinds (mark_has marks.Comma) inside))
      λ more. then_has (λ l. choice_kind which.0 ∷ kinds.Mark marks.LeftParenthesis ∷ (expr_kinds first ++ (listed_kinds more ++ l))) _ _ _ _ (mark_has marks.RightParenthesis)
      λ _. pure_has (λ l. choice_kind which.0 ∷ kinds.Mark marks.LeftParenthesis ∷ (expr_kinds first ++ (listed_kinds more ++ kinds.Mark marks.RightParenthesis ∷ l))) _ _
      (chosen_kinds which.0 first more at)

  atom_has : HasKinds (atom opening inner) expr_kinds
  atom_has = placed_has _ expr_kinds λ at. or_has (λ l. l) _ _ _
      (then_has (λ l. l) _ _ path_kinds _ path_has λ p. pure_has (λ l. path_kinds p ++ l) _ _ (path_expr_kinds p ∙ sym (append-nil (path_kinds p))))
      (or_has (λ l. l) _ _ _
      (then_has (λ l. l) _ _ literal_kinds _ literal_has λ a. pure_has (λ l. literal_kinds a ++ l) _ _ (literal_expr_kinds a at ∙ sym (append-nil (literal_kinds a))))
      (or_has (λ l. l) _ _ _ (group_has at) (or_has (λ l. l) _ _ _ (absolute_has at) (chosen_has at))))

  power_has : HasKinds (power opening inner) expr_kinds
  power_has = placed_has _ expr_kinds λ at. then_has (λ l. l) _ _ expr_kinds _ atom_has
      λ base. then_has (λ l. expr_kinds base ++ l) _ _ exponent_kinds _
      (optional_has _ (behind (kinds.Mark marks.Power ∷ []) (λ (x : Number × Span). number_kind x.0 ∷ [])) (behind_has _ _ (kinds.Mark marks.Power ∷ []) _ (mark_has marks.Power) exponent_has))
      λ n. pure_has (λ l. expr_kinds base ++ (exponent_kinds n ++ l)) _ _ (power_of_kinds base n at)

  product_has : HasKinds (product opening inner) expr_kinds
  product_has = placed_has _ expr_kinds λ at. then_has (λ l. l) _ _ expr_kinds _ power_has
      λ first. then_has (λ l. expr_kinds first ++ l) _ _ scaled_kinds _
      (many_has _ (λ x. scale_kind x.0 ∷ expr_kinds x.1)
      (then_has (λ l. l) _ _ _ _ scale_has λ s. then_has (λ l. scale_kind s.0 ∷ l) _ _ expr_kinds _ power_has
      λ x. pure_has (λ l. scale_kind s.0 ∷ (expr_kinds x ++ l)) _ _ (ap (λ l. scale_kind s.0 ∷ l) (sym (append-nil (expr_kinds x))))))
      λ more. pure_has (λ l. expr_kinds first ++ (scaled_kinds more ++ l)) _ _ (product_of_kinds first more at)

  sum_over_has : HasKinds (sum_over opening inner) expr_kinds
  sum_over_has = placed_has _ expr_kinds λ at. then_has (λ l. l) _ _ expr_kinds _ product_has
      λ first. then_has (λ l. expr_kinds first ++ l) _ _ signed_kinds _
      (many_has _ (λ x. sign_kind x.0 ∷ expr_kinds x.1)
      (then_has (λ l. l) _ _ _ _ sign_has λ s. then_has (λ l. sign_kind s.0 ∷ l) _ _ expr_kinds _ product_has
      λ x. pure_has (λ l. sign_kind s.0 ∷ (expr_kinds x ++ l)) _ _ (ap (λ l. sign_kind s.0 ∷ l) (sym (append-nil (expr_kinds x))))))
      λ more. pure_has (λ l. expr_kinds first ++ (signed_kinds more ++ l)) _ _ (sum_of_kinds first more at)

pub sum_has : (depth : ℕ) → HasKinds (sum depth) expr_kinds
unfolding sum
sum_has zero = sum_over_has never never (never_has _) (never_has expr_kinds)
sum_has (suc depth) = sum_over_has (mark marks.LeftParenthesis) (sum depth) (mark_has marks.LeftParenthesis) (sum_has depth)
