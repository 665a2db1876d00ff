-- Statements are written out as the tokens that spell them.
use Rattle.std.proofs.Common.{◌≡◌, ℕ, [], ◌∷◌, ◌++◌, Option, Some, None, refl, sym, ap, append-nil}
use Rattle.ato_base.specs.declared.keywords.Keyword.TheVariants as keywords
use Rattle.ato_base.specs.declared.keywords.Mark.TheVariants as marks
use Rattle.ato_base.specs.declared.tokens.TokenKind.TheVariants as kinds
use Rattle.ato_ast.specs.declared.stmts.End.{End}
use Rattle.ato_ast.specs.declared.stmts.Value.{Value}
use Rattle.ato_ast.specs.PathKinds.{marked, named_kind, number_kind, quoted_kind, label_kind, point_kinds, path_kinds}
use Rattle.ato_ast.specs.ExprKinds.{literal_kinds, expr_kinds}
use Rattle.ato_ast.specs.StmtKinds.{end_kinds, value_kinds, comparison_kind, compare_kinds, connected_kinds, assigned_kinds, stmt_kinds}
use Rattle.ato_parser.specs.Pieces.{◌>>◌, optional}
use Rattle.ato_parser.specs.TokenPieces.{mark}
use Rattle.ato_parser.specs.Statements.{label, point, connected, value, compare, passed, documented, declared_point, connection, replacement, assignment, instance_made, declaration, assertion, stmt}
use Rattle.ato_parser.proofs.KindsOfPieces.{HasKinds, HasKindsAt, pure_has, then_has, or_has, many_has, placed_has, maybe, optional_has, behind, behind_has, same_has}
use Rattle.ato_parser.proofs.KindsOfTokens.{mark_has, keyword_has, integer_has, name_has, text_has, comparison_has, truth_kind, truth_has, value_kinds_is}
use Rattle.ato_parser.proofs.KindsOfExprs.{path_has, literal_has, sum_has}

-- ---- labels, points, ends

pub label_has : HasKinds label (λ l. label_kind l ∷ [])
label_has = or_has (λ l. l) _ _ _
    (then_has (λ l. l) _ _ _ _ name_has λ n. pure_has (λ l. named_kind n ∷ l) _ _ refl)
    (or_has (λ l. l) _ _ _
    (then_has (λ l. l) _ _ _ _ integer_has λ n. pure_has (λ l. number_kind n.0 ∷ l) _ _ refl)
    (then_has (λ l. l) _ _ _ _ text_has λ s. pure_has (λ l. quoted_kind s ∷ l) _ _ refl))

pub point_has : HasKinds point point_kinds
point_has = placed_has _ point_kinds λ at. or_has (λ l. l) _ _ _
    (then_has (λ l. l) _ _ _ _ (keyword_has keywords.Signal)
    λ _. then_has (λ l. kinds.Keyword keywords.Signal ∷ l) _ _ _ _ name_has
    λ n. pure_has (λ l. kinds.Keyword keywords.Signal ∷ named_kind n ∷ l) _ _ refl)
    (then_has (λ l. l) _ _ _ _ (keyword_has keywords.Pin)
    λ _. then_has (λ l. kinds.Keyword keywords.Pin ∷ l) _ _ _ _ label_has
    λ p. pure_has (λ l. kinds.Keyword keywords.Pin ∷ label_kind p ∷ l) _ _ refl)

pub connected_has : HasKinds connected end_kinds
connected_has = or_has (λ l. l) _ _ _
    (then_has (λ l. l) _ _ point_kinds _ point_has λ p. pure_has (λ l. point_kinds p ++ l) _ _ (sym (append-nil (point_kinds p))))
    (then_has (λ l. l) _ _ path_kinds _ path_has λ p. pure_has (λ l. path_kinds p ++ l) _ _ (sym (append-nil (path_kinds p))))

-- an end behind `~`, or none
maybe_connected : (e : Option End) → connected_kinds e ≡ maybe (behind (kinds.Mark marks.Tilde ∷ []) end_kinds) e
maybe_connected None = refl
maybe_connected (Some e) = refl

-- a value behind `=`, or none
maybe_assigned : (v : Option Value) → assigned_kinds v ≡ maybe (behind (kinds.Mark marks.Equal ∷ []) value_kinds) v
maybe_assigned None = refl
maybe_assigned (Some v) = refl

-- ---- values, comparisons, statements

module _ (depth : ℕ) where
  pub value_has : HasKinds (value depth) value_kinds
  value_has = or_has (λ l. l) _ _ _
      (then_has (λ l. l) _ _ _ _ text_has λ s. pure_has (λ l. quoted_kind s ∷ l) _ _ refl)
      (or_has (λ l. l) _ _ _
      (then_has (λ l. l) _ _ _ _ truth_has λ t. pure_has (λ l. truth_kind t.0 ∷ l) _ _ (value_kinds_is t.0 t.1))
      (then_has (λ l. l) _ _ expr_kinds _ (sum_has depth) λ x. pure_has (λ l. expr_kinds x ++ l) _ _ (sym (append-nil (expr_kinds x)))))

  pub compare_has : HasKinds (compare depth) compare_kinds
  compare_has = or_has (λ l. l) _ _ _
      (then_has (λ l. l) _ _ _ _ comparison_has
      λ c. then_has (λ l. comparison_kind c.0 ∷ l) _ _ expr_kinds _ (sum_has depth)
      λ x. pure_has (λ l. comparison_kind c.0 ∷ (expr_kinds x ++ l)) _ _ (ap (λ l. comparison_kind c.0 ∷ l) (sym (append-nil (expr_kinds x)))))
      (then_has (λ l. l) _ _ _ _ (keyword_has keywords.Within)
      λ _. then_has (λ l. kinds.Keyword keywords.Within ∷ l) _ _ literal_kinds _ literal_has
      λ a. then_has (λ l. kinds.Keyword keywords.Within ∷ (literal_kinds a ++ l)) _ _ (marked marks.Bar literal_kinds) _
      (many_has _ (behind (kinds.Mark marks.Bar ∷ []) literal_kinds) (behind_has _ _ (kinds.Mark marks.Bar ∷ []) literal_kinds (mark_has marks.Bar) literal_has))
      λ more. pure_has (λ l. kinds.Keyword keywords.Within ∷ (literal_kinds a ++ (marked marks.Bar literal_kinds more ++ l))) _ _
      (ap (λ l. kinds.Keyword keywords.Within ∷ (literal_kinds a ++ l)) (sym (append-nil (marked marks.Bar literal_kinds more)))))

  passed_has : HasKindsAt (passed depth) stmt_kinds
  passed_has at = then_has (λ l. l) _ _ _ _ (keyword_has keywords.Pass) λ _. pure_has (λ l. kinds.Keyword keywords.Pass ∷ l) _ _ refl

  documented_has : HasKindsAt (documented depth) stmt_kinds
  documented_has at = then_has (λ l. l) _ _ _ _ text_has λ s. pure_has (λ l. quoted_kind s ∷ l) _ _ refl

  declared_point_has : HasKindsAt (declared_point depth) stmt_kinds
  declared_point_has at = then_has (λ l. l) _ _ point_kinds _ point_has
      λ p. then_has (λ l. point_kinds p ++ l) _ _ connected_kinds _
      (same_has (optional (mark marks.Tilde >> connected)) (maybe (behind (kinds.Mark marks.Tilde ∷ []) end_kinds)) connected_kinds maybe_connected
      (optional_has _ (behind (kinds.Mark marks.Tilde ∷ []) end_kinds) (behind_has _ _ (kinds.Mark marks.Tilde ∷ []) end_kinds (mark_has marks.Tilde) connected_has)))
      λ e. pure_has (λ l. point_kinds p ++ (connected_kinds e ++ l)) _ _ (ap (λ l. point_kinds p ++ l) (sym (append-nil (connected_kinds e))))

  connection_has : HasKindsAt (connection depth) stmt_kinds
  connection_has at = then_has (λ l. l) _ _ path_kinds _ path_has
      λ p. then_has (λ l. path_kinds p ++ l) _ _ _ _ (mark_has marks.Tilde)
      λ _. then_has (λ l. path_kinds p ++ (kinds.Mark marks.Tilde ∷ l)) _ _ end_kinds _ connected_has
      λ e. pure_has (λ l. path_kinds p ++ (kinds.Mark marks.Tilde ∷ (end_kinds e ++ l))) _ _ (ap (λ l. path_kinds p ++ (kinds.Mark marks.Tilde ∷ l)) (sym (append-nil (end_kinds e))))

  replacement_has : HasKindsAt (replacement depth) stmt_kinds
  replacement_has at = then_has (λ l. l) _ _ path_kinds _ path_has
      λ p. then_has (λ l. path_kinds p ++ l) _ _ _ _ (mark_has marks.Arrow)
      λ _. then_has (λ l. path_kinds p ++ (kinds.Mark marks.Arrow ∷ l)) _ _ _ _ name_has
      λ n. pure_has (λ l. path_kinds p ++ (kinds.Mark marks.Arrow ∷ named_kind n ∷ l)) _ _ refl

  assignment_has : HasKindsAt (assignment depth) stmt_kinds
  assignment_has at = then_has (λ l. l) _ _ path_kinds _ path_has
      λ p. then_has (λ l. path_kinds p ++ l) _ _ _ _ (mark_has marks.Equal)
      λ _. then_has (λ l. path_kinds p ++ (kinds.Mark marks.Equal ∷ l)) _ _ value_kinds _ value_has
      λ v. pure_has (λ l. path_kinds p ++ (kinds.Mark marks.Equal ∷ (value_kinds v ++ l))) _ _ (ap (λ l. path_kinds p ++ (kinds.Mark marks.Equal ∷ l)) (sym (append-nil (value_kinds v))))

  instance_made_has : HasKindsAt (instance_made depth) stmt_kinds
  instance_made_has at = then_has (λ l. l) _ _ _ _ name_has
      λ n. then_has (λ l. named_kind n ∷ l) _ _ _ _ (mark_has marks.Equal)
      λ _. then_has (λ l. named_kind n ∷ kinds.Mark marks.Equal ∷ l) _ _ _ _ (keyword_has keywords.New)
      λ _. then_has (λ l. named_kind n ∷ kinds.Mark marks.Equal ∷ kinds.Keyword keywords.New ∷ l) _ _ _ _ name_has
      λ of. pure_has (λ l. named_kind n ∷ kinds.Mark marks.Equal ∷ kinds.Keyword keywords.New ∷ named_kind of ∷ l) _ _ refl

  declaration_has : HasKindsAt (declaration depth) stmt_kinds
  declaration_has at = then_has (λ l. l) _ _ _ _ name_has
      λ n. then_has (λ l. named_kind n ∷ l) _ _ _ _ (mark_has marks.Colon)
      λ _. then_has (λ l. named_kind n ∷ kinds.Mark marks.Colon ∷ l) _ _ _ _ name_has
      λ of. then_has (λ l. named_kind n ∷ kinds.Mark marks.Colon ∷ named_kind of ∷ l) _ _ assigned_kinds _
      (same_has (optional (mark marks.Equal >> value depth)) (maybe (behind (kinds.Mark marks.Equal ∷ []) value_kinds)) assigned_kinds maybe_assigned
      (optional_has _ (behind (kinds.Mark marks.Equal ∷ []) value_kinds) (behind_has _ _ (kinds.Mark marks.Equal ∷ []) value_kinds (mark_has marks.Equal) value_has)))
      λ v. pure_has (λ l. named_kind n ∷ kinds.Mark marks.Colon ∷ named_kind of ∷ (assigned_kinds v ++ l)) _ _
      (ap (λ l. named_kind n ∷ kinds.Mark marks.Colon ∷ named_kind of ∷ l) (sym (append-nil (assigned_kinds v))))

  assertion_has : HasKindsAt (assertion depth) stmt_kinds
  assertion_has at = then_has (λ l. l) _ _ _ _ (keyword_has keywords.Assert)
      λ _. then_has (λ l. kinds.Keyword keywords.Assert ∷ l) _ _ expr_kinds _ (sum_has depth)
      λ x. then_has (λ l. kinds.Keyword keywords.Assert ∷ (expr_kinds x ++ l)) _ _ compare_kinds _ compare_has
      λ c. pure_has (λ l. kinds.Keyword keywords.Assert ∷ (expr_kinds x ++ (compare_kinds c ++ l))) _ _
      (ap (λ l. kinds.Keyword keywords.Assert ∷ (expr_kinds x ++ l)) (sym (append-nil (compare_kinds c))))

  pub stmt_has : HasKinds (stmt depth) stmt_kinds
  stmt_has = placed_has _ stmt_kinds λ at. or_has (λ l. l) _ _ _ (passed_has at)
      (or_has (λ l. l) _ _ _ (documented_has at)
      (or_has (λ l. l) _ _ _ (declared_point_has at)
      (or_has (λ l. l) _ _ _ (connection_has at)
      (or_has (λ l. l) _ _ _ (replacement_has at)
      (or_has (λ l. l) _ _ _ (assignment_has at)
      (or_has (λ l. l) _ _ _ (instance_made_has at)
      (or_has (λ l. l) _ _ _ (declaration_has at)
      (assertion_has at))))))))
