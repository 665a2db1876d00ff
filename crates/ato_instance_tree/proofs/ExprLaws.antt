-- The paths and the first tokens of expressions, and which are literals: one equation a variant.
use Rattle.std.proofs.Common.{◌≡◌, true, false, List, [], ◌∷◌, ◌++◌, sym, ap, ◌∙◌}
use Rattle.std.specs.List.{flat_map}
use Rattle.std.proofs.lemmas.List.Folds.{flat_map-map}
use Rattle.ato_base.specs.declared.places.Span.{Span}
use Rattle.ato_ast.specs.declared.names.Number.{Number}
use Rattle.ato_ast.specs.declared.paths.Path.{Path}
use Rattle.ato_ast.specs.declared.exprs.Sign.{Sign}
use Rattle.ato_ast.specs.declared.exprs.Scale.{Scale}
use Rattle.ato_ast.specs.declared.exprs.Choice.{Choice}
use Rattle.ato_ast.specs.declared.exprs.Literal.{Literal}
use Rattle.ato_ast.specs.declared.exprs.Expr.{Expr, fold-roll-Expr}
use Rattle.ato_ast.specs.declared.exprs.Expr.TheOpen.{Expr-F}
use Rattle.ato_ast.specs.declared.exprs.Expr.TheVariants as exprs
use Rattle.ato_instance_tree.specs.Exprs.{layer_paths, expr_paths, front_of, literal_front, steps_front, layer_front, expr_front, layer_is_literal, is_literal}

-- ---- paths

pub sum_paths : (first : Expr) (more : List (Sign × Expr)) (at : Span) → expr_paths (exprs.Sum first more at) ≡ expr_paths first ++ flat_map (λ x. expr_paths x.1) more
unfolding expr_paths
sum_paths first more at = ap expr_paths (sym (exprs.rolls-Sum first more at)) ∙ fold-roll-Expr (List Path) layer_paths (Expr-F.Sum first more at)
    ∙ ap (λ l. expr_paths first ++ l) (flat_map-map (λ (x : Sign × List Path). x.1) (λ (x : Sign × Expr). (x.0, expr_paths x.1)) more)

pub product_paths : (first : Expr) (more : List (Scale × Expr)) (at : Span)
    → expr_paths (exprs.Product first more at) ≡ expr_paths first ++ flat_map (λ x. expr_paths x.1) more
unfolding expr_paths
product_paths first more at = ap expr_paths (sym (exprs.rolls-Product first more at)) ∙ fold-roll-Expr (List Path) layer_paths (Expr-F.Product first more at)
    ∙ ap (λ l. expr_paths first ++ l) (flat_map-map (λ (x : Scale × List Path). x.1) (λ (x : Scale × Expr). (x.0, expr_paths x.1)) more)

pub power_paths : (base : Expr) (n : Number) (at : Span) → expr_paths (exprs.Power base n at) ≡ expr_paths base
unfolding expr_paths
power_paths base n at = ap expr_paths (sym (exprs.rolls-Power base n at)) ∙ fold-roll-Expr (List Path) layer_paths (Expr-F.Power base n at)

pub group_paths : (inner : Expr) (at : Span) → expr_paths (exprs.Group inner at) ≡ expr_paths inner
unfolding expr_paths
group_paths inner at = ap expr_paths (sym (exprs.rolls-Group inner at)) ∙ fold-roll-Expr (List Path) layer_paths (Expr-F.Group inner at)

pub abs_paths : (inner : Expr) (at : Span) → expr_paths (exprs.Abs inner at) ≡ expr_paths inner
unfolding expr_paths
abs_paths inner at = ap expr_paths (sym (exprs.rolls-Abs inner at)) ∙ fold-roll-Expr (List Path) layer_paths (Expr-F.Abs inner at)

pub choice_paths : (which : Choice) (first : Expr) (more : List Expr) (at : Span)
    → expr_paths (exprs.Choice which first more at) ≡ expr_paths first ++ flat_map expr_paths more
unfolding expr_paths
choice_paths which first more at = ap expr_paths (sym (exprs.rolls-Choice which first more at)) ∙ fold-roll-Expr (List Path) layer_paths (Expr-F.Choice which first more at)
    ∙ ap (λ l. expr_paths first ++ l) (flat_map-map (λ (x : List Path). x) expr_paths more)

pub path_paths : (p : Path) → expr_paths (exprs.Path p) ≡ p ∷ []
unfolding expr_paths
path_paths p = ap expr_paths (sym (exprs.rolls-Path p)) ∙ fold-roll-Expr (List Path) layer_paths (Expr-F.Path p)

pub literal_paths : (l : Literal) (at : Span) → expr_paths (exprs.Literal l at) ≡ []
unfolding expr_paths
literal_paths l at = ap expr_paths (sym (exprs.rolls-Literal l at)) ∙ fold-roll-Expr (List Path) layer_paths (Expr-F.Literal l at)

-- ---- first tokens

pub sum_front : (first : Expr) (more : List (Sign × Expr)) (at : Span) → expr_front (exprs.Sum first more at) ≡ expr_front first
unfolding expr_front
sum_front first more at = ap expr_front (sym (exprs.rolls-Sum first more at)) ∙ fold-roll-Expr Span layer_front (Expr-F.Sum first more at)

pub product_front : (first : Expr) (more : List (Scale × Expr)) (at : Span) → expr_front (exprs.Product first more at) ≡ expr_front first
unfolding expr_front
product_front first more at = ap expr_front (sym (exprs.rolls-Product first more at)) ∙ fold-roll-Expr Span layer_front (Expr-F.Product first more at)

pub power_front : (base : Expr) (n : Number) (at : Span) → expr_front (exprs.Power base n at) ≡ expr_front base
unfolding expr_front
power_front base n at = ap expr_front (sym (exprs.rolls-Power base n at)) ∙ fold-roll-Expr Span layer_front (Expr-F.Power base n at)

pub group_front : (inner : Expr) (at : Span) → expr_front (exprs.Group inner at) ≡ front_of 1 at
unfolding expr_front
group_front inner at = ap expr_front (sym (exprs.rolls-Group inner at)) ∙ fold-roll-Expr Span layer_front (Expr-F.Group inner at)

pub abs_front : (inner : Expr) (at : Span) → expr_front (exprs.Abs inner at) ≡ front_of 3 at
unfolding expr_front
abs_front inner at = ap expr_front (sym (exprs.rolls-Abs inner at)) ∙ fold-roll-Expr Span layer_front (Expr-F.Abs inner at)

pub choice_front : (which : Choice) (first : Expr) (more : List Expr) (at : Span) → expr_front (exprs.Choice which first more at) ≡ front_of 3 at
unfolding expr_front
choice_front which first more at = ap expr_front (sym (exprs.rolls-Choice which first more at)) ∙ fold-roll-Expr Span layer_front (Expr-F.Choice which first more at)

pub path_front : (p : Path) → expr_front (exprs.Path p) ≡ steps_front p.at p.steps
unfolding expr_front
path_front p = ap expr_front (sym (exprs.rolls-Path p)) ∙ fold-roll-Expr Span layer_front (Expr-F.Path p)

pub literal_expr_front : (l : Literal) (at : Span) → expr_front (exprs.Literal l at) ≡ literal_front l
unfolding expr_front
literal_expr_front l at = ap expr_front (sym (exprs.rolls-Literal l at)) ∙ fold-roll-Expr Span layer_front (Expr-F.Literal l at)

-- ---- literals

pub sum_literal : (first : Expr) (more : List (Sign × Expr)) (at : Span) → is_literal (exprs.Sum first more at) ≡ false
unfolding is_literal
sum_literal first more at = ap layer_is_literal (exprs.outs-Sum first more at)

pub product_literal : (first : Expr) (more : List (Scale × Expr)) (at : Span) → is_literal (exprs.Product first more at) ≡ false
unfolding is_literal
product_literal first more at = ap layer_is_literal (exprs.outs-Product first more at)

pub power_literal : (base : Expr) (n : Number) (at : Span) → is_literal (exprs.Power base n at) ≡ false
unfolding is_literal
power_literal base n at = ap layer_is_literal (exprs.outs-Power base n at)

pub group_literal : (inner : Expr) (at : Span) → is_literal (exprs.Group inner at) ≡ false
unfolding is_literal
group_literal inner at = ap layer_is_literal (exprs.outs-Group inner at)

pub abs_literal : (inner : Expr) (at : Span) → is_literal (exprs.Abs inner at) ≡ false
unfolding is_literal
abs_literal inner at = ap layer_is_literal (exprs.outs-Abs inner at)

pub choice_literal : (which : Choice) (first : Expr) (more : List Expr) (at : Span) → is_literal (exprs.Choice which first more at) ≡ false
unfolding is_literal
choice_literal which first more at = ap layer_is_literal (exprs.outs-Choice which first more at)

pub path_literal : (p : Path) → is_literal (exprs.Path p) ≡ false
unfolding is_literal
path_literal p = ap layer_is_literal (exprs.outs-Path p)

pub literal_literal : (l : Literal) (at : Span) → is_literal (exprs.Literal l at) ≡ true
unfolding is_literal
literal_literal l at = ap layer_is_literal (exprs.outs-Literal l at)
