-- What is a file, or begins one, where many parentheses may stand inside each other, is so where fewer may, if no more of them are open.
use Rattle.std.proofs.Common.{◌≡◌, ℕ, zero, suc, true, Some, is_some, refl}
use Rattle.ato_base.specs.declared.places.Span.{Span}
use Rattle.ato_base.specs.declared.keywords.Keyword.TheVariants as keywords
use Rattle.ato_base.specs.declared.keywords.Mark.TheVariants as marks
use Rattle.ato_ast.specs.declared.blocks.File.{File}
use Rattle.ato_ast.specs.declared.exprs.Expr.{Expr}
use Rattle.ato_parser.specs.Tokens.{Tokens}
use Rattle.ato_parser.specs.Kinds.{named, abs_of, choice_of, scale_of, sign_of, comparison_of, block_of}
use Rattle.ato_parser.specs.Nesting.{left_to_open}
use Rattle.ato_parser.specs.Pieces.{Piece, never, before_one, in_first, in_one, in_other}
use Rattle.ato_parser.specs.TokenPieces.{mark}
use Rattle.ato_parser.specs.Expressions.{atom, power, product, sum_over, sum}
use Rattle.ato_parser.specs.Statements.{value, compare, assignment, declaration, assertion, stmt}
use Rattle.ato_parser.specs.Files.{stmts_line, body, block, item, file, IsFile, FileFront}
use Rattle.ato_parser.proofs.GrowsFiles.{sum_from_none}
use Rattle.ato_parser.proofs.Nesting.{Moves, valued, mark_moves, keyword_moves, open_moves, pure_moves, then_moves, optional_moves}
use Rattle.ato_parser.proofs.NestingLaws.{name_keeps, path_keeps, power_keeps, product_keeps, flat_keeps, nested_keeps, sum_keeps, stmt_stays, newline_stays, line_stays, item_stays}
use Rattle.ato_parser.proofs.FewerLaws.{Fewer, same_fewer, grows_fewer, begun_fewer, then_fewer, behind_fewer, either_fewer, other_fewer, or_fewer, many_fewer, placed_fewer, optional_fewer, ended_fewer, opened_fewer, call_fewer}

-- ---- expressions

-- where no parenthesis may be opened
flat_fewer : (inner : Piece Expr) → Fewer 0 (atom (mark marks.LeftParenthesis) inner) (atom never never)
flat_fewer inner = placed_fewer 0 _ _ (or_fewer 0 _ _ _ _ (same_fewer 0 _) (or_fewer 0 _ _ _ _ (same_fewer 0 _)
    (either_fewer 0 _ _ _ (opened_fewer _ _ (in_other (in_one (in_first before_one))))
    (other_fewer 0 _ _ _ (or_fewer 0 _ _ _ _ (call_fewer (named abs_of) _ _ (valued 0 (named abs_of) refl refl)) (call_fewer (named choice_of) _ _ (valued 0 (named choice_of) refl refl)))))))

-- where one more may be opened than inside of it
module _ (b few : ℕ) (opens : Moves b few (mark marks.LeftParenthesis)) (inner inner' : Piece Expr) (moves : Moves few few inner') (within : Fewer few inner inner') where
  nested_fewer : Fewer b (atom (mark marks.LeftParenthesis) inner) (atom (mark marks.LeftParenthesis) inner')
  nested_fewer = placed_fewer b _ _ (or_fewer b _ _ _ _ (same_fewer b _) (or_fewer b _ _ _ _ (same_fewer b _)
      (or_fewer b _ _ _ _ (behind_fewer b few _ _ _ opens (λ o. begun_fewer few _ _ _ within))
      (or_fewer b _ _ _ _
      (behind_fewer b b _ _ _ (valued b (named abs_of) refl refl) λ n. behind_fewer b few _ _ _ opens (λ o. begun_fewer few _ _ _ within))
      (behind_fewer b b _ _ _ (valued b (named choice_of) refl refl) λ n. behind_fewer b few _ _ _ opens λ o. then_fewer few few _ _ _ _ moves within
      λ first. begun_fewer few _ _ _ (many_fewer few _ _ (then_moves few few few _ _ (mark_moves few marks.Comma refl) (λ c. moves))
      (behind_fewer few few _ _ _ (mark_moves few marks.Comma refl) (λ c. within))))))))

module _ (b : ℕ) (opening opening' : Piece (Unit {0} × Span)) (inner inner' : Piece Expr) (moves : Moves b b (atom opening' inner')) (atoms : Fewer b (atom opening inner) (atom opening' inner')) where
  power_fewer : Fewer b (power opening inner) (power opening' inner')
  power_fewer = placed_fewer b _ _ (begun_fewer b _ _ _ atoms)

  power_moves : Moves b b (power opening' inner')
  power_moves = power_keeps b opening' inner' moves

  product_fewer : Fewer b (product opening inner) (product opening' inner')
  product_fewer = placed_fewer b _ _ (then_fewer b b _ _ _ _ power_moves power_fewer λ first. begun_fewer b _ _ _
      (many_fewer b _ _ (then_moves b b b _ _ (valued b scale_of refl refl) λ s. then_moves b b b _ _ power_moves λ x. pure_moves b _)
      (behind_fewer b b _ _ _ (valued b scale_of refl refl) λ s. begun_fewer b _ _ _ power_fewer)))

  product_moves : Moves b b (product opening' inner')
  product_moves = product_keeps b opening' inner' moves

  sum_over_fewer : Fewer b (sum_over opening inner) (sum_over opening' inner')
  sum_over_fewer = placed_fewer b _ _ (then_fewer b b _ _ _ _ product_moves product_fewer λ first. begun_fewer b _ _ _
      (many_fewer b _ _ (then_moves b b b _ _ (valued b sign_of refl refl) λ s. then_moves b b b _ _ product_moves λ x. pure_moves b _)
      (behind_fewer b b _ _ _ (valued b sign_of refl refl) λ s. begun_fewer b _ _ _ product_fewer)))

sum_fewer : (few many : ℕ) → Fewer few (sum many) (sum few)
unfolding sum
sum_fewer zero zero = same_fewer 0 _
sum_fewer zero (suc many) = sum_over_fewer 0 (mark marks.LeftParenthesis) never (sum many) never flat_keeps (flat_fewer (sum many))
sum_fewer (suc few) zero = grows_fewer (suc few) _ _ (sum_from_none few)
sum_fewer (suc few) (suc many) = sum_over_fewer (suc few) (mark marks.LeftParenthesis) (mark marks.LeftParenthesis) (sum many) (sum few)
    (nested_keeps few (sum few) (sum_keeps few)) (nested_fewer (suc few) few (open_moves few) (sum many) (sum few) (sum_keeps few) (sum_fewer few many))

-- ---- what has expressions in it

module _ (b d e : ℕ) (moves : Moves b b (sum e)) (sums : Fewer b (sum d) (sum e)) where
  value_fewer : Fewer b (value d) (value e)
  value_fewer = or_fewer b _ _ _ _ (same_fewer b _) (or_fewer b _ _ _ _ (same_fewer b _) (begun_fewer b _ _ _ sums))

  compare_fewer : Fewer b (compare d) (compare e)
  compare_fewer = or_fewer b _ _ _ _ (behind_fewer b b _ _ _ (valued b comparison_of refl refl) λ c. begun_fewer b _ _ _ sums) (same_fewer b _)

  assignment_fewer : Fewer b (assignment d) (assignment e)
  assignment_fewer = behind_fewer b b _ _ _ (path_keeps b) λ p. behind_fewer b b _ _ _ (mark_moves b marks.Equal refl) λ q. begun_fewer b _ _ _ value_fewer

  declaration_fewer : Fewer b (declaration d) (declaration e)
  declaration_fewer = behind_fewer b b _ _ _ (name_keeps b) λ n. behind_fewer b b _ _ _ (mark_moves b marks.Colon refl) λ c. behind_fewer b b _ _ _ (name_keeps b)
      λ m. begun_fewer b _ _ _ (optional_fewer b _ _ (behind_fewer b b _ _ _ (mark_moves b marks.Equal refl) (λ q. value_fewer)))

  assertion_fewer : Fewer b (assertion d) (assertion e)
  assertion_fewer = behind_fewer b b _ _ _ (keyword_moves b keywords.Assert) λ k. then_fewer b b _ _ _ _ moves sums λ x. begun_fewer b _ _ _ compare_fewer

  stmt_fewer : Fewer b (stmt d) (stmt e)
  stmt_fewer = placed_fewer b _ _ (or_fewer b _ _ _ _ (same_fewer b _) (or_fewer b _ _ _ _ (same_fewer b _) (or_fewer b _ _ _ _ (same_fewer b _)
      (or_fewer b _ _ _ _ (same_fewer b _) (or_fewer b _ _ _ _ (same_fewer b _) (or_fewer b _ _ _ _ assignment_fewer
      (or_fewer b _ _ _ _ (same_fewer b _) (or_fewer b _ _ _ _ declaration_fewer assertion_fewer))))))))

  stmt_moves : Moves b b (stmt e)
  stmt_moves = stmt_stays b e moves

  stmts_line_fewer : Fewer b (stmts_line d) (stmts_line e)
  stmts_line_fewer = then_fewer b b _ _ _ _ stmt_moves stmt_fewer λ first. begun_fewer b _ _ _
      (ended_fewer b _ _ _ _ (mark_moves b marks.Semicolon refl) stmt_moves stmt_fewer)

  stmts_line_moves : Moves b b (stmts_line e)
  stmts_line_moves = line_stays b e moves (stmt e) stmt_moves

  body_fewer : Fewer b (body d) (body e)
  body_fewer = or_fewer b _ _ _ _ (begun_fewer b _ _ _ stmts_line_fewer)
      (behind_fewer b b _ _ _ (newline_stays b e moves) λ n. behind_fewer b b _ _ _ (valued b _ refl refl) λ i. then_fewer b b _ _ _ _ stmts_line_moves stmts_line_fewer
      λ first. begun_fewer b _ _ _ (many_fewer b _ _ stmts_line_moves stmts_line_fewer))

  block_fewer : Fewer b (block d) (block e)
  block_fewer = behind_fewer b b _ _ _ (valued b block_of refl refl) λ kind. behind_fewer b b _ _ _ (name_keeps b)
      λ n. behind_fewer b b _ _ _ (optional_moves b _ (then_moves b b b _ _ (keyword_moves b keywords.From) (λ f. name_keeps b)))
      λ parent. behind_fewer b b _ _ _ (mark_moves b marks.Colon refl) λ c. begun_fewer b _ _ _ body_fewer

  item_fewer : Fewer b (item d) (item e)
  item_fewer = or_fewer b _ _ _ _ (same_fewer b _) (begun_fewer b _ _ _ block_fewer)

  file_of_sums_fewer : Fewer b (file d) (file e)
  file_of_sums_fewer = begun_fewer b _ _ _ (many_fewer b _ _ (item_stays b e moves) item_fewer)

file_fewer : (few many : ℕ) → Fewer few (file many) (file few)
file_fewer few many = file_of_sums_fewer few many few (sum_keeps few) (sum_fewer few many)

-- ---- files

pub few_spelled : (few many : ℕ) (f : File) (ts : Tokens) → IsFile many f ts → is_some (left_to_open (Some few) ts) ≡ true → IsFile few f ts
unfolding IsFile
few_spelled few many f ts s fits = (file_fewer few many).spells f ts s fits

pub few_open : (few many : ℕ) (ts : Tokens) → FileFront many ts → is_some (left_to_open (Some few) ts) ≡ true → FileFront few ts
unfolding FileFront
few_open few many ts f fits = (file_fewer few many).fronts ts f fits
