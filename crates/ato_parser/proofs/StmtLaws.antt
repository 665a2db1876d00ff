-- Statements are read.
use Rattle.std.proofs.Common.{ℕ, false, [], ◌∷◌, ◌++◌, Option, Some, None, refl}
use Rattle.ato_base.specs.declared.keywords.Keyword.TheVariants as keywords
use Rattle.ato_base.specs.declared.keywords.Mark.TheVariants as marks
use Rattle.ato_ast.specs.declared.names.Named.{Named}
use Rattle.ato_ast.specs.declared.paths.Path.{Path}
use Rattle.ato_ast.specs.declared.stmts.Value.TheVariants as values
use Rattle.ato_ast.specs.declared.stmts.Compare.TheVariants as compares
use Rattle.ato_ast.specs.declared.stmts.Stmt.TheVariants as stmts
use Rattle.ato_parser.specs.Kinds.{same_mark, same_keyword, is_mark, is_keyword, text_of, truth_of, comparison_of}
use Rattle.ato_parser.specs.Statements as S
use Rattle.ato_parser.specs.Reading.{has, is_name, starts_point, starts_stmt, only_name, made_by, declared_by}
use Rattle.ato_parser.specs.Reading as R
use Rattle.ato_parser.proofs.Classes.{Classes, a_name, a_text, a_keyword, a_mark}
use Rattle.ato_parser.proofs.Lawful.{Lawful}
use Rattle.ato_parser.proofs.ClassLaws.{text_tests, truth_tests, comparison_tests, keyword_tests, mark_tests, tests_within}
use Rattle.ato_parser.proofs.OneLaws.{never_lawful, one_lawful, mark_lawful, keyword_lawful}
use Rattle.ato_parser.proofs.ThenLaws.{then_lawful, map_lawful, widen}
use Rattle.ato_parser.proofs.OrLaws.{or_lawful}
use Rattle.ato_parser.proofs.SameLaws.{same_sym, lawful_same}
use Rattle.ato_parser.proofs.StmtSame.{only, made, assigned, declared, goes_on, stmt_same}
use Rattle.ato_parser.proofs.PointLaws.{point_starts, starts_point_tests, point_lawful, connected_lawful}
use Rattle.ato_parser.proofs.ManyLaws.{many_lawful}
use Rattle.ato_parser.proofs.PlacedLaws.{placed_lawful, optional_lawful}
use Rattle.ato_parser.proofs.LiteralLaws.{name_lawful, text_lawful, path_lawful, literal_more, literal_lawful}
use Rattle.ato_parser.proofs.ExpressionLaws.{sum_starts, sum_more, sum_lawful}

-- ---- values and comparisons

abbrev truths : Classes
truths = a_keyword keywords.True ∷ a_keyword keywords.False ∷ []

abbrev comparisons : Classes
comparisons = a_mark marks.Less ∷ a_mark marks.LessEqual ∷ a_mark marks.Greater ∷ a_mark marks.GreaterEqual ∷ a_keyword keywords.Is ∷ []

abbrev pub value_starts : Classes
value_starts = a_text ∷ truths ++ sum_starts

abbrev pub compare_starts : Classes
compare_starts = comparisons ++ a_keyword keywords.Within ∷ []

-- what goes on with an expression or with literals
abbrev pub compare_more : Classes
compare_more = a_mark marks.Bar ∷ literal_more ++ sum_more

-- what goes on with a statement
abbrev pub stmt_more : Classes
stmt_more = a_mark marks.Tilde ∷ a_mark marks.Equal ∷ compare_more

abbrev pub stmt_starts : Classes
stmt_starts = a_name ∷ a_text ∷ point_starts ++ a_keyword keywords.Pass ∷ a_keyword keywords.Assert ∷ []

module _ (depth : ℕ) where
  pub value_lawful : Lawful (S.value depth) (R.value depth) value_starts sum_more false
  unfolding R.value same_mark same_keyword
  value_lawful =
      or_lawful (has text_of) (a_text ∷ []) text_tests (map_lawful values.Text text_lawful)
      (or_lawful (has truth_of) truths truth_tests (map_lawful (λ t. values.Truth t.0 t.1) (one_lawful truth_of truths (tests_within truth_of truths truth_tests) refl))
      (map_lawful values.Expr (sum_lawful depth)) refl refl) refl refl

  pub compare_lawful : Lawful (S.compare depth) (R.compare depth) compare_starts compare_more false
  unfolding R.compare same_mark same_keyword
  compare_lawful = widen
      (or_lawful (has comparison_of) comparisons comparison_tests
      (then_lawful (one_lawful comparison_of comparisons (tests_within comparison_of comparisons comparison_tests) refl) (λ c. map_lawful (λ x. compares.Sides c.0 x) (sum_lawful depth)) refl)
      (then_lawful (keyword_lawful keywords.Within) (λ _. then_lawful literal_lawful (λ first. map_lawful (λ more. compares.Within (first ∷ more))
      (many_lawful (is_mark marks.Bar) (a_mark marks.Bar ∷ []) (mark_tests marks.Bar) (then_lawful (mark_lawful marks.Bar) (λ _. literal_lawful) refl) refl refl)) refl) refl) refl refl) compare_starts compare_more refl refl

  -- ---- what statements are made of

  pub declared_point_lawful : Lawful (S.declared_point depth) (R.declared_point depth) point_starts stmt_more false
  unfolding R.declared_point same_mark same_keyword
  declared_point_lawful = widen
      (then_lawful point_lawful (λ p. map_lawful (λ e. stmts.Point p e)
      (optional_lawful (is_mark marks.Tilde) (a_mark marks.Tilde ∷ []) (mark_tests marks.Tilde) (then_lawful (mark_lawful marks.Tilde) (λ _. connected_lawful) refl) refl)) refl) point_starts stmt_more refl refl

  made_lawful : (o : Option Named) → Lawful (only o (made depth)) (made_by depth o) (a_keyword keywords.New ∷ []) [] false
  made_lawful None = never_lawful (a_keyword keywords.New ∷ [])
  made_lawful (Some n) = map_lawful (λ of. stmts.Make n of) (then_lawful (keyword_lawful keywords.New) (λ _. name_lawful) refl)

  declared_lawful : (o : Option Named) → Lawful (only o (declared depth)) (declared_by depth o) (a_mark marks.Colon ∷ []) stmt_more false
  unfolding same_mark same_keyword
  declared_lawful None = widen (never_lawful (a_mark marks.Colon ∷ [])) (a_mark marks.Colon ∷ []) stmt_more refl refl
  declared_lawful (Some n) = widen
      (then_lawful (mark_lawful marks.Colon) (λ _. then_lawful name_lawful (λ of. map_lawful (λ v. stmts.Declare n of v)
      (optional_lawful (is_mark marks.Equal) (a_mark marks.Equal ∷ []) (mark_tests marks.Equal) (then_lawful (mark_lawful marks.Equal) (λ _. value_lawful) refl) refl)) refl) refl) (a_mark marks.Colon ∷ []) stmt_more refl refl

  pub assigned_lawful : (p : Path) → Lawful (assigned depth p) (R.assigned depth p) (a_keyword keywords.New ∷ value_starts) sum_more false
  unfolding R.assigned same_mark same_keyword
  assigned_lawful p = or_lawful (is_keyword keywords.New) (a_keyword keywords.New ∷ []) (keyword_tests keywords.New) (made_lawful (only_name p)) (map_lawful (λ v. stmts.Assign p v) value_lawful) refl refl

  abbrev path_goes_on : Classes
  path_goes_on = a_mark marks.Tilde ∷ a_mark marks.Arrow ∷ a_mark marks.Equal ∷ a_mark marks.Colon ∷ []

  pub behind_path_lawful : (p : Path) → Lawful (goes_on depth p) (R.behind_path depth p) path_goes_on stmt_more false
  unfolding R.behind_path same_mark same_keyword
  behind_path_lawful p = widen
      (or_lawful (is_mark marks.Tilde) (a_mark marks.Tilde ∷ []) (mark_tests marks.Tilde) (map_lawful (λ e. stmts.Connect p e) (then_lawful (mark_lawful marks.Tilde) (λ _. connected_lawful) refl))
      (or_lawful (is_mark marks.Arrow) (a_mark marks.Arrow ∷ []) (mark_tests marks.Arrow) (map_lawful (λ n. stmts.Replace p n) (then_lawful (mark_lawful marks.Arrow) (λ _. name_lawful) refl))
      (or_lawful (is_mark marks.Equal) (a_mark marks.Equal ∷ []) (mark_tests marks.Equal) (then_lawful (mark_lawful marks.Equal) (λ _. assigned_lawful p) refl)
      (declared_lawful (only_name p)) refl refl) refl refl) refl refl) path_goes_on stmt_more refl refl

  pub assertion_lawful : Lawful (S.assertion depth) (R.assertion depth) (a_keyword keywords.Assert ∷ []) compare_more false
  unfolding R.assertion same_mark same_keyword
  assertion_lawful = then_lawful (keyword_lawful keywords.Assert) (λ _. then_lawful (sum_lawful depth) (λ x. map_lawful (λ c. stmts.Assert x c) compare_lawful) refl) refl

  -- ---- statements

  pub stmt_lawful : Lawful (S.stmt depth) (R.stmt depth) stmt_starts stmt_more false
  unfolding R.stmt same_mark same_keyword
  stmt_lawful = widen (lawful_same (same_sym (stmt_same depth)) (placed_lawful
      (or_lawful (is_keyword keywords.Pass) (a_keyword keywords.Pass ∷ []) (keyword_tests keywords.Pass) (map_lawful (λ _. stmts.Pass) (keyword_lawful keywords.Pass))
      (or_lawful (has text_of) (a_text ∷ []) text_tests (map_lawful (λ s at. stmts.Docs s) text_lawful)
      (or_lawful starts_point point_starts starts_point_tests declared_point_lawful
      (or_lawful (is_keyword keywords.Assert) (a_keyword keywords.Assert ∷ []) (keyword_tests keywords.Assert) assertion_lawful
      (then_lawful path_lawful behind_path_lawful refl) refl refl) refl refl) refl refl) refl refl))) stmt_starts stmt_more refl refl
