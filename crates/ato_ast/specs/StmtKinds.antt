-- Statements, written out as the kinds of tokens.
use Rattle.std.specs.Prelude.{true, false, [], ◌∷◌, ◌++◌, Option, Some, None}
use Rattle.ato_base.specs.declared.keywords.Keyword.TheVariants as keyword
use Rattle.ato_base.specs.declared.keywords.Mark.TheVariants as mark
use Rattle.ato_base.specs.declared.tokens.TokenKind.{TokenKind}
use Rattle.ato_base.specs.declared.tokens.TokenKind.TheVariants as kinds
use Rattle.ato_ast.specs.declared.names.Named.{Named}
use Rattle.ato_ast.specs.declared.stmts.End.{End}
use Rattle.ato_ast.specs.declared.stmts.End.TheVariants as ends
use Rattle.ato_ast.specs.declared.stmts.Value.{Value}
use Rattle.ato_ast.specs.declared.stmts.Value.TheVariants as value
use Rattle.ato_ast.specs.declared.stmts.Comparison.{Comparison}
use Rattle.ato_ast.specs.declared.stmts.Comparison.TheVariants as comparison
use Rattle.ato_ast.specs.declared.stmts.Compare.{Compare}
use Rattle.ato_ast.specs.declared.stmts.Compare.TheVariants as compare
use Rattle.ato_ast.specs.declared.stmts.Stmt.{Stmt}
use Rattle.ato_ast.specs.declared.stmts.Stmt.TheVariants as stmt
use Rattle.ato_ast.specs.PathKinds.{Kinds, joined, named_kind, quoted_kind, point_kinds, path_kinds}
use Rattle.ato_ast.specs.ExprKinds.{literal_kinds, expr_kinds}

-- end = point | path
abbrev pub end_kinds : End → Kinds
end_kinds (ends.Point p) = point_kinds p
end_kinds (ends.Path p) = path_kinds p

-- value = STRING | "True" | "False" | sum
abbrev pub value_kinds : Value → Kinds
value_kinds (value.Text s) = quoted_kind s ∷ []
value_kinds (value.Truth true at) = kinds.Keyword keyword.True ∷ []
value_kinds (value.Truth false at) = kinds.Keyword keyword.False ∷ []
value_kinds (value.Expr x) = expr_kinds x

abbrev pub comparison_kind : Comparison → TokenKind
comparison_kind comparison.Less = kinds.Mark mark.Less
comparison_kind comparison.LessEqual = kinds.Mark mark.LessEqual
comparison_kind comparison.Greater = kinds.Mark mark.Greater
comparison_kind comparison.GreaterEqual = kinds.Mark mark.GreaterEqual
comparison_kind comparison.Is = kinds.Keyword keyword.Is

-- compare = ("<"|"<="|">"|">="|"is") sum | "within" literal { "|" literal }
abbrev pub compare_kinds : Compare → Kinds
compare_kinds (compare.Sides c x) = comparison_kind c ∷ expr_kinds x
compare_kinds (compare.Within ls) = kinds.Keyword keyword.Within ∷ joined mark.Bar literal_kinds ls

-- what a point is connected with
abbrev pub connected_kinds : Option End → Kinds
connected_kinds None = []
connected_kinds (Some e) = kinds.Mark mark.Tilde ∷ end_kinds e

-- what a declaration assigns
abbrev pub assigned_kinds : Option Value → Kinds
assigned_kinds None = []
assigned_kinds (Some v) = kinds.Mark mark.Equal ∷ value_kinds v

-- NAME "=" "new" NAME
abbrev pub make_kinds : Named → Named → Kinds
make_kinds n of = named_kind n ∷ kinds.Mark mark.Equal ∷ kinds.Keyword keyword.New ∷ named_kind of ∷ []

-- stmt = "pass" | STRING | point [ "~" end ] | path "~" end | path "->" NAME | path "=" value
--   | NAME "=" "new" NAME | NAME ":" NAME [ "=" value ] | "assert" sum compare
abbrev pub stmt_kinds : Stmt → Kinds
stmt_kinds (stmt.Pass at) = kinds.Keyword keyword.Pass ∷ []
stmt_kinds (stmt.Docs s) = quoted_kind s ∷ []
stmt_kinds (stmt.Point p e at) = point_kinds p ++ connected_kinds e
stmt_kinds (stmt.Connect p e at) = path_kinds p ++ (kinds.Mark mark.Tilde ∷ end_kinds e)
stmt_kinds (stmt.Replace p n at) = path_kinds p ++ (kinds.Mark mark.Arrow ∷ named_kind n ∷ [])
stmt_kinds (stmt.Assign p v at) = path_kinds p ++ (kinds.Mark mark.Equal ∷ value_kinds v)
stmt_kinds (stmt.Make n of at) = make_kinds n of
stmt_kinds (stmt.Declare n of v at) = named_kind n ∷ kinds.Mark mark.Colon ∷ named_kind of ∷ assigned_kinds v
stmt_kinds (stmt.Assert x c at) = kinds.Keyword keyword.Assert ∷ (expr_kinds x ++ compare_kinds c)
