-- Worked rows of the grammar: statements.
use Rattle.std.proofs.Common.{[], ◌∷◌, false, Some, None, refl}
use Rattle.ato_base.specs.declared.keywords.Keyword.TheVariants as keywords
use Rattle.ato_base.specs.declared.keywords.Mark.TheVariants as marks
use Rattle.ato_ast.specs.declared.paths.Label.TheVariants as labels
use Rattle.ato_ast.specs.declared.paths.Point.TheVariants as points
use Rattle.ato_ast.specs.declared.exprs.Literal.TheVariants as literals
use Rattle.ato_ast.specs.declared.exprs.Expr.TheVariants as exprs
use Rattle.ato_ast.specs.declared.stmts.Comparison.TheVariants as comparisons
use Rattle.ato_ast.specs.declared.stmts.Compare.TheVariants as compares
use Rattle.ato_ast.specs.declared.stmts.End.TheVariants as ends
use Rattle.ato_ast.specs.declared.stmts.Value.TheVariants as values
use Rattle.ato_ast.specs.declared.stmts.Stmt.TheVariants as stmts
use Rattle.ato_parser.specs.Pieces.{then_spells, the_one, the_other, no_more, one_more, placed_spells, one_token, nothing}
use Rattle.ato_parser.specs.Expressions.{sum}
use Rattle.ato_parser.specs.Statements.{stmt}
use Rattle.ato_parser.proofs.RowTokens.{bytes, byte, row, word, digits, quote, sign, key, named, integer, quoted, a_name, a_text, a_mark, a_keyword}
use Rattle.ato_parser.proofs.ExpressionRows.{lone, plain, a_path, a_number, name_expr, name_sum, atom_sum}

-- pass
passing : (stmt 0).Spells (stmts.Pass (byte 0)) (row (key keywords.Pass ∷ []))
unfolding sum
passing = placed_spells (the_one (then_spells (a_keyword keywords.Pass 0) nothing))

-- "s"
a_string : (stmt 0).Spells (stmts.Docs (quoted 7 0)) (row (quote 7 ∷ []))
unfolding sum
a_string = placed_spells (the_other (the_one (then_spells (a_text 7 0) nothing)))

-- signal a
a_signal : (stmt 0).Spells (stmts.Point (points.Signal (named 5 1) (bytes 0 2)) None (bytes 0 2)) (row (key keywords.Signal ∷ word 5 ∷ []))
unfolding sum
a_signal = placed_spells (the_other (the_other (the_one (then_spells (placed_spells (the_one (then_spells (a_keyword keywords.Signal 0) (then_spells (a_name 5 1) nothing)))) (then_spells (the_other nothing) nothing)))))

-- pin 1 ~ signal a
a_pin_connected : (stmt 0).Spells (stmts.Point (points.Pin (labels.Number (integer 1) (byte 1)) (bytes 0 2)) (Some (ends.Point (points.Signal (named 5 4) (bytes 3 5)))) (bytes 0 5)) (row (key keywords.Pin ∷ digits 1 ∷ sign marks.Tilde ∷ key keywords.Signal ∷ word 5 ∷ []))
unfolding sum
a_pin_connected = placed_spells (the_other (the_other (the_one (then_spells (placed_spells (the_other (then_spells (a_keyword keywords.Pin 0) (then_spells (the_other (the_one (then_spells (one_token (digits 1) (byte 1) refl) nothing))) nothing)))) (then_spells (the_one (then_spells (then_spells (a_mark marks.Tilde 2) (the_one (then_spells (placed_spells (the_one (then_spells (a_keyword keywords.Signal 3) (then_spells (a_name 5 4) nothing)))) nothing))) nothing)) nothing)))))

-- a ~ pin "s"
a_connection : (stmt 0).Spells (stmts.Connect (lone 5 0) (ends.Point (points.Pin (labels.Text (quoted 7 3)) (bytes 2 4))) (bytes 0 4)) (row (word 5 ∷ sign marks.Tilde ∷ key keywords.Pin ∷ quote 7 ∷ []))
unfolding sum
a_connection = placed_spells (the_other (the_other (the_other (the_one (then_spells (a_path 5 0) (then_spells (a_mark marks.Tilde 1) (then_spells (the_one (then_spells (placed_spells (the_other (then_spells (a_keyword keywords.Pin 2) (then_spells (the_other (the_other (then_spells (a_text 7 3) nothing))) nothing)))) nothing)) nothing)))))))

-- a ~ b
two_paths : (stmt 0).Spells (stmts.Connect (lone 5 0) (ends.Path (lone 6 2)) (bytes 0 3)) (row (word 5 ∷ sign marks.Tilde ∷ word 6 ∷ []))
unfolding sum
two_paths = placed_spells (the_other (the_other (the_other (the_one (then_spells (a_path 5 0) (then_spells (a_mark marks.Tilde 1) (then_spells (the_other (then_spells (a_path 6 2) nothing)) nothing)))))))

-- a -> B
a_replacement : (stmt 0).Spells (stmts.Replace (lone 5 0) (named 6 2) (bytes 0 3)) (row (word 5 ∷ sign marks.Arrow ∷ word 6 ∷ []))
unfolding sum
a_replacement = placed_spells (the_other (the_other (the_other (the_other (the_one (then_spells (a_path 5 0) (then_spells (a_mark marks.Arrow 1) (then_spells (a_name 6 2) nothing))))))))

-- abs = 1: a function's name is a name like others
a_functions_name : (stmt 0).Spells (stmts.Assign (lone 0 0) (values.Expr (exprs.Literal (literals.One (plain 1 2)) (byte 2))) (bytes 0 3)) (row (word 0 ∷ sign marks.Equal ∷ digits 1 ∷ []))
unfolding sum
a_functions_name = placed_spells (the_other (the_other (the_other (the_other (the_other (the_one (then_spells (a_path 0 0) (then_spells (a_mark marks.Equal 1) (then_spells (the_other (the_other (then_spells (atom_sum _ _ _ _ (placed_spells (the_other (the_one (then_spells (then_spells (a_number 1 2) (the_other (the_other nothing))) nothing))))) nothing))) nothing)))))))))

-- max = abs
two_functions_names : (stmt 0).Spells (stmts.Assign (lone 1 0) (values.Expr (name_expr 0 2)) (bytes 0 3)) (row (word 1 ∷ sign marks.Equal ∷ word 0 ∷ []))
unfolding sum
two_functions_names = placed_spells (the_other (the_other (the_other (the_other (the_other (the_one (then_spells (a_path 1 0) (then_spells (a_mark marks.Equal 1) (then_spells (the_other (the_other (then_spells (name_sum _ _ 0 2) nothing))) nothing)))))))))

-- a = False
a_truth : (stmt 0).Spells (stmts.Assign (lone 5 0) (values.Truth false (byte 2)) (bytes 0 3)) (row (word 5 ∷ sign marks.Equal ∷ key keywords.False ∷ []))
unfolding sum
a_truth = placed_spells (the_other (the_other (the_other (the_other (the_other (the_one (then_spells (a_path 5 0) (then_spells (a_mark marks.Equal 1) (then_spells (the_other (the_one (then_spells (one_token (key keywords.False) (byte 2) refl) nothing))) nothing)))))))))

-- a = new B
an_instance : (stmt 0).Spells (stmts.Make (named 5 0) (named 6 3) (bytes 0 4)) (row (word 5 ∷ sign marks.Equal ∷ key keywords.New ∷ word 6 ∷ []))
unfolding sum
an_instance = placed_spells (the_other (the_other (the_other (the_other (the_other (the_other (the_one (then_spells (a_name 5 0) (then_spells (a_mark marks.Equal 1) (then_spells (a_keyword keywords.New 2) (then_spells (a_name 6 3) nothing)))))))))))

-- a : B
a_declaration : (stmt 0).Spells (stmts.Declare (named 5 0) (named 6 2) None (bytes 0 3)) (row (word 5 ∷ sign marks.Colon ∷ word 6 ∷ []))
unfolding sum
a_declaration = placed_spells (the_other (the_other (the_other (the_other (the_other (the_other (the_other (the_one (then_spells (a_name 5 0) (then_spells (a_mark marks.Colon 1) (then_spells (a_name 6 2) (then_spells (the_other nothing) nothing))))))))))))

-- a : B = "s"
a_declaration_with_value : (stmt 0).Spells (stmts.Declare (named 5 0) (named 6 2) (Some (values.Text (quoted 7 4))) (bytes 0 5)) (row (word 5 ∷ sign marks.Colon ∷ word 6 ∷ sign marks.Equal ∷ quote 7 ∷ []))
unfolding sum
a_declaration_with_value = placed_spells (the_other (the_other (the_other (the_other (the_other (the_other (the_other (the_one (then_spells (a_name 5 0) (then_spells (a_mark marks.Colon 1) (then_spells (a_name 6 2) (then_spells (the_one (then_spells (then_spells (a_mark marks.Equal 3) (the_one (then_spells (a_text 7 4) nothing))) nothing)) nothing))))))))))))

-- assert a <= b
a_comparison : (stmt 0).Spells (stmts.Assert (name_expr 5 1) (compares.Sides comparisons.LessEqual (name_expr 6 3)) (bytes 0 4)) (row (key keywords.Assert ∷ word 5 ∷ sign marks.LessEqual ∷ word 6 ∷ []))
unfolding sum
a_comparison = placed_spells (the_other (the_other (the_other (the_other (the_other (the_other (the_other (the_other (then_spells (a_keyword keywords.Assert 0) (then_spells (name_sum _ _ 5 1) (then_spells (the_one (then_spells (one_token (sign marks.LessEqual) (byte 2) refl) (then_spells (name_sum _ _ 6 3) nothing))) nothing)))))))))))

-- assert a is b
an_equation : (stmt 0).Spells (stmts.Assert (name_expr 5 1) (compares.Sides comparisons.Is (name_expr 6 3)) (bytes 0 4)) (row (key keywords.Assert ∷ word 5 ∷ key keywords.Is ∷ word 6 ∷ []))
unfolding sum
an_equation = placed_spells (the_other (the_other (the_other (the_other (the_other (the_other (the_other (the_other (then_spells (a_keyword keywords.Assert 0) (then_spells (name_sum _ _ 5 1) (then_spells (the_one (then_spells (one_token (key keywords.Is) (byte 2) refl) (then_spells (name_sum _ _ 6 3) nothing))) nothing)))))))))))

-- assert a within 1 | 2
two_literals : (stmt 0).Spells (stmts.Assert (name_expr 5 1) (compares.Within (literals.One (plain 1 3) ∷ literals.One (plain 2 5) ∷ [])) (bytes 0 6)) (row (key keywords.Assert ∷ word 5 ∷ key keywords.Within ∷ digits 1 ∷ sign marks.Bar ∷ digits 2 ∷ []))
unfolding sum
two_literals = placed_spells (the_other (the_other (the_other (the_other (the_other (the_other (the_other (the_other (then_spells (a_keyword keywords.Assert 0) (then_spells (name_sum _ _ 5 1) (then_spells (the_other (then_spells (a_keyword keywords.Within 2) (then_spells (then_spells (a_number 1 3) (the_other (the_other nothing))) (then_spells (one_more (then_spells (a_mark marks.Bar 4) (then_spells (a_number 2 5) (the_other (the_other nothing)))) no_more) nothing)))) nothing)))))))))))
