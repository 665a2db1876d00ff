-- The paths and the first tokens of expressions.
use Rattle.std.specs.Prelude.{ℕ, ◌+◌, min, Bool, true, false, List, [], ◌∷◌, ◌++◌, if◌then◌else◌}
use Rattle.std.specs.List.{flat_map}
use Rattle.ato_base.specs.declared.places.Span.{Span}
use Rattle.ato_ast.specs.declared.names.Named.{Named}
use Rattle.ato_ast.specs.declared.paths.Path.{Path}
use Rattle.ato_ast.specs.declared.exprs.Part.{Part}
use Rattle.ato_ast.specs.declared.exprs.Literal.{Literal}
use Rattle.ato_ast.specs.declared.exprs.Literal.TheVariants as literal
use Rattle.ato_ast.specs.declared.exprs.Expr.{Expr, out-Expr, fold-Expr}
use Rattle.ato_ast.specs.declared.exprs.Expr.TheOpen.{Expr-F}
use Rattle.ato_ast.specs.declared.stmts.Compare.{Compare}
use Rattle.ato_ast.specs.declared.stmts.Compare.TheVariants as compare

-- the paths of an expression, from left to right: of one layer, with those of each expression below it
abbrev pub layer_paths : Expr-F (List Path) → List Path
layer_paths (Expr-F.Sum first rest at) = first ++ flat_map (λ x. x.1) rest
layer_paths (Expr-F.Product first rest at) = first ++ flat_map (λ x. x.1) rest
layer_paths (Expr-F.Power base exponent at) = base
layer_paths (Expr-F.Group inner at) = inner
layer_paths (Expr-F.Abs inner at) = inner
layer_paths (Expr-F.Choice f first rest at) = first ++ flat_map (λ x. x) rest
layer_paths (Expr-F.Path p) = p ∷ []
layer_paths (Expr-F.Literal l at) = []

unfoldable pub expr_paths : Expr → List Path
expr_paths x = fold-Expr (List Path) layer_paths x

-- the paths of what an expression is compared with
abbrev pub compared_paths : Compare → List Path
compared_paths (compare.Sides how x) = expr_paths x
compared_paths (compare.Within ls) = []

-- ---- the first token

-- so many bytes from the start of a place, or all of it
abbrev pub front_of : ℕ → Span → Span
front_of long at = record { file = at.file; start = at.start; end = min at.end (at.start + long) }

-- the sign of a quantity, or its number
abbrev pub part_front : Part → Span
part_front part = if part.minus then front_of 1 part.at else part.number.at

abbrev pub literal_front : Literal → Span
literal_front (literal.One part) = part_front part
literal_front (literal.To part other) = part_front part
literal_front (literal.About part other) = part_front part

abbrev pub steps_front : Span → List Named → Span
steps_front at [] = at
steps_front at (n ∷ more) = n.at

-- the first token of one layer, with that of each expression below it; `abs`, `max` and `min` have three bytes
abbrev pub layer_front : Expr-F Span → Span
layer_front (Expr-F.Sum first rest at) = first
layer_front (Expr-F.Product first rest at) = first
layer_front (Expr-F.Power base exponent at) = base
layer_front (Expr-F.Group inner at) = front_of 1 at
layer_front (Expr-F.Abs inner at) = front_of 3 at
layer_front (Expr-F.Choice f first rest at) = front_of 3 at
layer_front (Expr-F.Path p) = steps_front p.at p.steps
layer_front (Expr-F.Literal l at) = literal_front l

unfoldable pub expr_front : Expr → Span
expr_front x = fold-Expr Span layer_front x

-- ---- literals

-- one literal, without parentheses
abbrev pub layer_is_literal : Expr-F Expr → Bool
layer_is_literal (Expr-F.Literal l at) = true
layer_is_literal _ = false

unfoldable pub is_literal : Expr → Bool
is_literal x = layer_is_literal (out-Expr x)
