-- Where the parts of a tree stand.
use Rattle.ato_base.specs.declared.places.Span.{Span}
use Rattle.ato_ast.specs.declared.paths.Label.{Label}
use Rattle.ato_ast.specs.declared.paths.Label.TheVariants as label
use Rattle.ato_ast.specs.declared.paths.Point.{Point}
use Rattle.ato_ast.specs.declared.paths.Point.TheVariants as point
use Rattle.ato_ast.specs.declared.exprs.Expr.{Expr, out-Expr}
use Rattle.ato_ast.specs.declared.exprs.Expr.TheOpen.{Expr-F}
use Rattle.ato_ast.specs.declared.stmts.End.{End}
use Rattle.ato_ast.specs.declared.stmts.End.TheVariants as ends
use Rattle.ato_ast.specs.declared.stmts.Value.{Value}
use Rattle.ato_ast.specs.declared.stmts.Value.TheVariants as values
use Rattle.ato_ast.specs.declared.stmts.Stmt.{Stmt}
use Rattle.ato_ast.specs.declared.stmts.Stmt.TheVariants as stmts
use Rattle.ato_ast.specs.declared.blocks.Head.{Head}
use Rattle.ato_ast.specs.declared.blocks.Head.TheVariants as heads

abbrev pub label_at : Label → Span
label_at (label.Name n) = n.at
label_at (label.Number n at) = at
label_at (label.Text s) = s.at

abbrev pub point_at : Point → Span
point_at (point.Signal n at) = at
point_at (point.Pin l at) = at

abbrev pub layer_at : Expr-F Expr → Span
layer_at (Expr-F.Sum first more at) = at
layer_at (Expr-F.Product first more at) = at
layer_at (Expr-F.Power base exponent at) = at
layer_at (Expr-F.Group inner at) = at
layer_at (Expr-F.Abs inner at) = at
layer_at (Expr-F.Choice which first more at) = at
layer_at (Expr-F.Path p) = p.at
layer_at (Expr-F.Literal l at) = at

unfoldable pub expr_at : Expr → Span
expr_at x = layer_at (out-Expr x)

abbrev pub end_at : End → Span
end_at (ends.Point p) = point_at p
end_at (ends.Path p) = p.at

abbrev pub value_at : Value → Span
value_at (values.Text s) = s.at
value_at (values.Truth is at) = at
value_at (values.Expr x) = expr_at x

abbrev pub stmt_at : Stmt → Span
stmt_at (stmts.Pass at) = at
stmt_at (stmts.Docs s) = s.at
stmt_at (stmts.Point p e at) = at
stmt_at (stmts.Connect p e at) = at
stmt_at (stmts.Replace p n at) = at
stmt_at (stmts.Assign p v at) = at
stmt_at (stmts.Make n of at) = at
stmt_at (stmts.Declare n of v at) = at
stmt_at (stmts.Assert x c at) = at

abbrev pub head_at : Head → Span
head_at (heads.ImportFrom n s at) = at
head_at (heads.Import ns at) = at
head_at (heads.From s ns at) = at
head_at (heads.Docs s) = s.at
head_at (heads.Pass at) = at
