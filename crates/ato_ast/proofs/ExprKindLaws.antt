-- What an expression's kinds are, one equation a variant.
use Rattle.std.proofs.Common.{◌≡◌, List, [], ◌∷◌, ◌++◌, sym, ap, ◌∙◌}
use Rattle.std.proofs.lemmas.List.Folds.{flat_map-map}
use Rattle.ato_base.specs.declared.places.Span.{Span}
use Rattle.ato_base.specs.declared.keywords.Mark.TheVariants as mark
use Rattle.ato_base.specs.declared.tokens.TokenKind.TheVariants as kinds
use Rattle.ato_ast.specs.declared.names.Number.{Number}
use Rattle.ato_ast.specs.declared.paths.Path.{Path}
use Rattle.ato_ast.specs.declared.exprs.Sign.{Sign}
use Rattle.ato_ast.specs.declared.exprs.Scale.{Scale}
use Rattle.ato_ast.specs.declared.exprs.Choice.{Choice}
use Rattle.ato_ast.specs.declared.exprs.Literal.{Literal}
use Rattle.ato_ast.specs.declared.exprs.Expr.{Expr, fold-roll-Expr}
use Rattle.ato_ast.specs.declared.exprs.Expr.TheOpen.{Expr-F}
use Rattle.ato_ast.specs.declared.exprs.Expr.TheVariants as exprs
use Rattle.ato_ast.specs.PathKinds.{Kinds, number_kind, path_kinds}
use Rattle.ato_ast.specs.ExprKinds.{step, expr_kinds, signed_kinds, scaled_kinds, listed_kinds, in_parentheses, abs_name, choice_kind, literal_kinds, sign_kind, scale_kind}

pub sum_kinds : (first : Expr) (more : List (Sign × Expr)) (at : Span) → expr_kinds (exprs.Sum first more at) ≡ expr_kinds first ++ signed_kinds more
sum_kinds first more at = ap expr_kinds (sym (exprs.rolls-Sum first more at)) ∙ fold-roll-Expr Kinds step (Expr-F.Sum first more at)
    ∙ ap (λ l. expr_kinds first ++ l) (flat_map-map (λ (x : Sign × Kinds). sign_kind x.0 ∷ x.1) (λ (x : Sign × Expr). (x.0, expr_kinds x.1)) more)

pub product_kinds : (first : Expr) (more : List (Scale × Expr)) (at : Span) → expr_kinds (exprs.Product first more at) ≡ expr_kinds first ++ scaled_kinds more
product_kinds first more at = ap expr_kinds (sym (exprs.rolls-Product first more at)) ∙ fold-roll-Expr Kinds step (Expr-F.Product first more at)
    ∙ ap (λ l. expr_kinds first ++ l) (flat_map-map (λ (x : Scale × Kinds). scale_kind x.0 ∷ x.1) (λ (x : Scale × Expr). (x.0, expr_kinds x.1)) more)

pub power_kinds : (base : Expr) (n : Number) (at : Span) → expr_kinds (exprs.Power base n at) ≡ expr_kinds base ++ (kinds.Mark mark.Power ∷ number_kind n ∷ [])
power_kinds base n at = ap expr_kinds (sym (exprs.rolls-Power base n at)) ∙ fold-roll-Expr Kinds step (Expr-F.Power base n at)

pub group_kinds : (inner : Expr) (at : Span) → expr_kinds (exprs.Group inner at) ≡ in_parentheses (expr_kinds inner)
group_kinds inner at = ap expr_kinds (sym (exprs.rolls-Group inner at)) ∙ fold-roll-Expr Kinds step (Expr-F.Group inner at)

pub abs_kinds : (inner : Expr) (at : Span) → expr_kinds (exprs.Abs inner at) ≡ kinds.Name abs_name ∷ in_parentheses (expr_kinds inner)
abs_kinds inner at = ap expr_kinds (sym (exprs.rolls-Abs inner at)) ∙ fold-roll-Expr Kinds step (Expr-F.Abs inner at)

pub choice_kinds : (which : Choice) (first : Expr) (more : List Expr) (at : Span)
    → expr_kinds (exprs.Choice which first more at) ≡ choice_kind which ∷ in_parentheses (expr_kinds first ++ listed_kinds more)
choice_kinds which first more at = ap expr_kinds (sym (exprs.rolls-Choice which first more at)) ∙ fold-roll-Expr Kinds step (Expr-F.Choice which first more at)
    ∙ ap (λ l. choice_kind which ∷ in_parentheses (expr_kinds first ++ l)) (flat_map-map (λ (x : Kinds). kinds.Mark mark.Comma ∷ x) expr_kinds more)

pub path_expr_kinds : (p : Path) → expr_kinds (exprs.Path p) ≡ path_kinds p
path_expr_kinds p = ap expr_kinds (sym (exprs.rolls-Path p)) ∙ fold-roll-Expr Kinds step (Expr-F.Path p)

pub literal_expr_kinds : (l : Literal) (at : Span) → expr_kinds (exprs.Literal l at) ≡ literal_kinds l
literal_expr_kinds l at = ap expr_kinds (sym (exprs.rolls-Literal l at)) ∙ fold-roll-Expr Kinds step (Expr-F.Literal l at)

pub ruleset expr_equations = (sum_kinds, product_kinds, power_kinds, group_kinds, abs_kinds, choice_kinds, path_expr_kinds, literal_expr_kinds)
