-- What holds of the steps of two readers holds of the readers of statements, blocks and files.
use Rattle.std.proofs.Common.{ℕ, Bool, true, false, [], ◌∷◌, Option, Some, None, is_some}
use Rattle.ato_base.specs.declared.places.Span.{Span}
use Rattle.ato_base.specs.declared.keywords.Keyword.TheVariants as keywords
use Rattle.ato_base.specs.declared.keywords.Mark.TheVariants as marks
use Rattle.ato_base.specs.declared.tokens.TokenKind.{TokenKind}
use Rattle.ato_ast.specs.declared.names.Named.{Named}
use Rattle.ato_ast.specs.declared.paths.Path.{Path}
use Rattle.ato_ast.specs.declared.paths.Label.TheVariants as labels
use Rattle.ato_ast.specs.declared.paths.Point.TheVariants as points
use Rattle.ato_ast.specs.declared.stmts.End.TheVariants as ends
use Rattle.ato_ast.specs.declared.stmts.Value.TheVariants as values
use Rattle.ato_ast.specs.declared.stmts.Compare.TheVariants as compares
use Rattle.ato_ast.specs.declared.stmts.Stmt.{Stmt}
use Rattle.ato_ast.specs.declared.stmts.Stmt.TheVariants as stmts
use Rattle.ato_ast.specs.declared.blocks.Head.TheVariants as heads
use Rattle.ato_ast.specs.declared.blocks.Item.TheVariants as items
use Rattle.ato_parser.specs.Kinds.{is_mark, is_keyword, is_newline, is_indent, is_dedent, integer_of, text_of, truth_of, comparison_of, block_of}
use Rattle.ato_parser.specs.Input.{Reader}
use Rattle.ato_parser.specs.Reading.{has, is_name, starts_point, starts_stmt, only_name, sum, label, point, connected, value, compare, declared_point, made_by, assigned, declared_by, behind_path, assertion, stmt}
use Rattle.ato_parser.specs.FileReading.{line, more_names, names, imported, from_file, head, starts_head, starts_item, stmts_line, indented, body, block, item, file}
use Rattle.ato_parser.proofs.ReaderLaws.{Law, Goes, pure_goes, refuse_goes, one_goes, of_kind_goes, mark_goes, keyword_goes, then_goes, choose_goes, placed_goes, optional_goes, many_goes, ended_goes, the_end_goes}
use Rattle.ato_parser.proofs.ReaderExpressions.{name_goes, text_goes, path_goes, literal_goes}

-- ---- points, lines and heads

module _ (law : Law) where
  label_goes : Goes law label label
  unfolding label
  label_goes = choose_goes law is_name _ _ _ _ (then_goes law _ _ _ _ (name_goes law) (λ n. pure_goes law (labels.Name n)))
      (choose_goes law (has text_of) _ _ _ _ (then_goes law _ _ _ _ (text_goes law) (λ s. pure_goes law (labels.Text s)))
      (then_goes law _ _ _ _ (one_goes law integer_of) (λ n. pure_goes law (labels.Number n.0 n.1))))

  point_goes : Goes law point point
  unfolding point
  point_goes = placed_goes law _ _ (choose_goes law (is_keyword keywords.Signal) _ _ _ _
      (then_goes law _ _ _ _ (then_goes law _ _ _ _ (keyword_goes law keywords.Signal) (λ k. name_goes law)) (λ n. pure_goes law (points.Signal n)))
      (then_goes law _ _ _ _ (then_goes law _ _ _ _ (keyword_goes law keywords.Pin) (λ k. label_goes)) (λ l. pure_goes law (points.Pin l))))

  connected_goes : Goes law connected connected
  unfolding connected
  connected_goes = choose_goes law starts_point _ _ _ _ (then_goes law _ _ _ _ point_goes (λ p. pure_goes law (ends.Point p)))
      (then_goes law _ _ _ _ (path_goes law) (λ p. pure_goes law (ends.Path p)))

  line_goes : {A : Type 0} (starts : TokenKind → Bool) (r s : Reader A) → Goes law r s → Goes law (line starts r) (line starts s)
  unfolding line
  line_goes starts r s part = then_goes law _ _ _ _ part
      (λ first. then_goes law _ _ _ _ (ended_goes law marks.Semicolon starts r s _ _ part (pure_goes law (tt {0})))
      (λ rest. then_goes law _ _ _ _ (of_kind_goes law is_newline)
      (λ n. pure_goes law (record { parts = first ∷ rest.0; tail = is_some rest.1 }))))

  more_names_goes : Goes law more_names more_names
  unfolding more_names
  more_names_goes = many_goes law (is_mark marks.Comma) _ _ (then_goes law _ _ _ _ (mark_goes law marks.Comma) (λ c. name_goes law))

  names_goes : Goes law names names
  unfolding names
  names_goes = then_goes law _ _ _ _ (name_goes law) (λ first. then_goes law _ _ _ _ more_names_goes (λ more. pure_goes law (first ∷ more)))

  imported_goes : Goes law imported imported
  unfolding imported
  imported_goes = then_goes law _ _ _ _ (keyword_goes law keywords.Import) (λ k. then_goes law _ _ _ _ (name_goes law)
      (λ n. choose_goes law (is_keyword keywords.From) _ _ _ _
      (then_goes law _ _ _ _ (then_goes law _ _ _ _ (keyword_goes law keywords.From) (λ f. text_goes law)) (λ s. pure_goes law (heads.ImportFrom n s)))
      (then_goes law _ _ _ _ more_names_goes (λ more. pure_goes law (heads.Import (n ∷ more))))))

  from_file_goes : Goes law from_file from_file
  unfolding from_file
  from_file_goes = then_goes law _ _ _ _ (keyword_goes law keywords.From) (λ f. then_goes law _ _ _ _ (text_goes law)
      (λ s. then_goes law _ _ _ _ (keyword_goes law keywords.Import) (λ k. then_goes law _ _ _ _ names_goes (λ ns. pure_goes law (heads.From s ns)))))

  head_goes : Goes law head head
  unfolding head
  head_goes = placed_goes law _ _ (choose_goes law (is_keyword keywords.Import) _ _ _ _ imported_goes
      (choose_goes law (is_keyword keywords.From) _ _ _ _ from_file_goes
      (choose_goes law (has text_of) _ _ _ _ (then_goes law _ _ _ _ (text_goes law) (λ s. pure_goes law (λ at. heads.Docs s)))
      (then_goes law _ _ _ _ (keyword_goes law keywords.Pass) (λ k. pure_goes law heads.Pass)))))

-- ---- what has expressions in it, of two depths

module _ (law : Law) (d e : ℕ) (sums : Goes law (sum d) (sum e)) where
  value_goes : Goes law (value d) (value e)
  unfolding value
  value_goes = choose_goes law (has text_of) _ _ _ _ (then_goes law _ _ _ _ (text_goes law) (λ s. pure_goes law (values.Text s)))
      (choose_goes law (has truth_of) _ _ _ _ (then_goes law _ _ _ _ (one_goes law truth_of) (λ t. pure_goes law (values.Truth t.0 t.1)))
      (then_goes law _ _ _ _ sums (λ x. pure_goes law (values.Expr x))))

  compare_goes : Goes law (compare d) (compare e)
  unfolding compare
  compare_goes = choose_goes law (has comparison_of) _ _ _ _
      (then_goes law _ _ _ _ (one_goes law comparison_of) (λ c. then_goes law _ _ _ _ sums (λ x. pure_goes law (compares.Sides c.0 x))))
      (then_goes law _ _ _ _ (keyword_goes law keywords.Within) (λ k. then_goes law _ _ _ _ (literal_goes law)
      (λ first. then_goes law _ _ _ _ (many_goes law (is_mark marks.Bar) _ _ (then_goes law _ _ _ _ (mark_goes law marks.Bar) (λ b. literal_goes law)))
      (λ more. pure_goes law (compares.Within (first ∷ more))))))

  declared_point_goes : Goes law (declared_point d) (declared_point e)
  unfolding declared_point
  declared_point_goes = then_goes law _ _ _ _ (point_goes law)
      (λ p. then_goes law _ _ _ _ (optional_goes law (is_mark marks.Tilde) _ _ (then_goes law _ _ _ _ (mark_goes law marks.Tilde) (λ t. connected_goes law)))
      (λ c. pure_goes law (stmts.Point p c)))

  made_goes : (n : Option Named) → Goes law (made_by d n) (made_by e n)
  made_goes None = refuse_goes law (Span → Stmt)
  made_goes (Some n) = then_goes law _ _ _ _ (then_goes law _ _ _ _ (keyword_goes law keywords.New) (λ k. name_goes law)) (λ m. pure_goes law (stmts.Make n m))

  assigned_goes : (p : Path) → Goes law (assigned d p) (assigned e p)
  unfolding assigned
  assigned_goes p = choose_goes law (is_keyword keywords.New) _ _ _ _ (made_goes (only_name p)) (then_goes law _ _ _ _ value_goes (λ v. pure_goes law (stmts.Assign p v)))

  declared_goes : (n : Option Named) → Goes law (declared_by d n) (declared_by e n)
  declared_goes None = refuse_goes law (Span → Stmt)
  declared_goes (Some n) = then_goes law _ _ _ _ (mark_goes law marks.Colon) (λ c. then_goes law _ _ _ _ (name_goes law)
      (λ m. then_goes law _ _ _ _ (optional_goes law (is_mark marks.Equal) _ _ (then_goes law _ _ _ _ (mark_goes law marks.Equal) (λ q. value_goes)))
      (λ v. pure_goes law (stmts.Declare n m v))))

  behind_path_goes : (p : Path) → Goes law (behind_path d p) (behind_path e p)
  unfolding behind_path
  behind_path_goes p = choose_goes law (is_mark marks.Tilde) _ _ _ _
      (then_goes law _ _ _ _ (then_goes law _ _ _ _ (mark_goes law marks.Tilde) (λ t. connected_goes law)) (λ c. pure_goes law (stmts.Connect p c)))
      (choose_goes law (is_mark marks.Arrow) _ _ _ _
      (then_goes law _ _ _ _ (then_goes law _ _ _ _ (mark_goes law marks.Arrow) (λ a. name_goes law)) (λ n. pure_goes law (stmts.Replace p n)))
      (choose_goes law (is_mark marks.Equal) _ _ _ _ (then_goes law _ _ _ _ (mark_goes law marks.Equal) (λ q. assigned_goes p))
      (declared_goes (only_name p))))

  assertion_goes : Goes law (assertion d) (assertion e)
  unfolding assertion
  assertion_goes = then_goes law _ _ _ _ (keyword_goes law keywords.Assert) (λ k. then_goes law _ _ _ _ sums
      (λ x. then_goes law _ _ _ _ compare_goes (λ c. pure_goes law (stmts.Assert x c))))

  stmt_goes : Goes law (stmt d) (stmt e)
  unfolding stmt
  stmt_goes = placed_goes law _ _ (choose_goes law (is_keyword keywords.Pass) _ _ _ _ (then_goes law _ _ _ _ (keyword_goes law keywords.Pass) (λ k. pure_goes law stmts.Pass))
      (choose_goes law (has text_of) _ _ _ _ (then_goes law _ _ _ _ (text_goes law) (λ s. pure_goes law (λ at. stmts.Docs s)))
      (choose_goes law starts_point _ _ _ _ declared_point_goes
      (choose_goes law (is_keyword keywords.Assert) _ _ _ _ assertion_goes
      (then_goes law _ _ _ _ (path_goes law) behind_path_goes)))))

  stmts_line_goes : Goes law (stmts_line d) (stmts_line e)
  unfolding stmts_line
  stmts_line_goes = line_goes law starts_stmt _ _ stmt_goes

  indented_goes : Goes law (indented d) (indented e)
  unfolding indented
  indented_goes = then_goes law _ _ _ _ (of_kind_goes law is_newline) (λ n. then_goes law _ _ _ _ (of_kind_goes law is_indent) (λ i. then_goes law _ _ _ _ stmts_line_goes
      (λ first. then_goes law _ _ _ _ (many_goes law starts_stmt _ _ stmts_line_goes)
      (λ more. then_goes law _ _ _ _ (of_kind_goes law is_dedent) (λ t. pure_goes law (first ∷ more))))))

  body_goes : Goes law (body d) (body e)
  unfolding body
  body_goes = choose_goes law is_newline _ _ _ _ (then_goes law _ _ _ _ indented_goes (λ ls. pure_goes law (false, ls)))
      (then_goes law _ _ _ _ stmts_line_goes (λ l. pure_goes law (true, l ∷ [])))

  block_goes : Goes law (block d) (block e)
  unfolding block
  block_goes = then_goes law _ _ _ _ (one_goes law block_of) (λ kind. then_goes law _ _ _ _ (name_goes law)
      (λ n. then_goes law _ _ _ _ (optional_goes law (is_keyword keywords.From) _ _ (then_goes law _ _ _ _ (keyword_goes law keywords.From) (λ f. name_goes law)))
      (λ parent. then_goes law _ _ _ _ (mark_goes law marks.Colon)
      (λ c. then_goes law _ _ _ _ body_goes
      (λ b. pure_goes law (record { kind = kind.0; name = n; parent = parent; inline = b.0; lines = b.1 }))))))

  item_goes : Goes law (item d) (item e)
  unfolding item
  item_goes = choose_goes law (has block_of) _ _ _ _ (then_goes law _ _ _ _ block_goes (λ b. pure_goes law (items.Block b)))
      (then_goes law _ _ _ _ (line_goes law starts_head _ _ (head_goes law)) (λ l. pure_goes law (items.Heads l)))

  pub file_goes : Goes law (file d) (file e)
  unfolding file
  file_goes = then_goes law _ _ _ _ (many_goes law starts_item _ _ item_goes) (λ is. then_goes law _ _ _ _ (the_end_goes law) (λ t. pure_goes law (record { items = is })))
