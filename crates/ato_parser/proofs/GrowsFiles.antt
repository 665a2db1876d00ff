-- Where deeper parentheses may stand, each piece of the grammar grows.
use Rattle.std.proofs.Common.{ℕ, zero, suc, ◌≤◌}
use Rattle.ato_base.specs.declared.places.Span.{Span}
use Rattle.ato_base.specs.declared.keywords.Mark.TheVariants as marks
use Rattle.ato_ast.specs.declared.blocks.File.{File}
use Rattle.ato_ast.specs.declared.exprs.Expr.{Expr}
use Rattle.ato_parser.specs.Tokens.{Tokens}
use Rattle.ato_parser.specs.Pieces.{Piece, never}
use Rattle.ato_parser.specs.TokenPieces.{mark}
use Rattle.ato_parser.specs.Expressions.{group, absolute, chosen, atom, power, product, sum_over, sum}
use Rattle.ato_parser.specs.Statements.{value, compare, assignment, declaration, assertion, stmt}
use Rattle.ato_parser.specs.Files.{stmts_line, body, block, item, file, IsFile, FileFront}
use Rattle.ato_parser.proofs.DeeperReadings.{climbs}
use Rattle.ato_parser.proofs.GrowsLaws.{Grows, same_grows, never_grows, then_grows, or_grows, many_grows, placed_grows, optional_grows, ended_grows}

-- ---- expressions

module _ (opening opening' : Piece (Unit {0} × Span)) (inner inner' : Piece Expr) (outer : Grows opening opening') (within : Grows inner inner') where
  group_grows : Grows (group opening inner) (group opening' inner')
  group_grows = then_grows _ _ _ _ outer (λ o. then_grows _ _ _ _ within (λ x. same_grows _))

  absolute_grows : Grows (absolute opening inner) (absolute opening' inner')
  absolute_grows = then_grows _ _ _ _ (same_grows _) (λ n. then_grows _ _ _ _ outer (λ o. then_grows _ _ _ _ within (λ x. same_grows _)))

  chosen_grows : Grows (chosen opening inner) (chosen opening' inner')
  chosen_grows = then_grows _ _ _ _ (same_grows _) (λ which. then_grows _ _ _ _ outer (λ o. then_grows _ _ _ _ within
      (λ first. then_grows _ _ _ _ (many_grows _ _ (then_grows _ _ _ _ (same_grows _) (λ c. within))) (λ more. same_grows _))))

  atom_grows : Grows (atom opening inner) (atom opening' inner')
  atom_grows = placed_grows _ _ (or_grows _ _ _ _ (same_grows _) (or_grows _ _ _ _ (same_grows _) (or_grows _ _ _ _ group_grows (or_grows _ _ _ _ absolute_grows chosen_grows))))

  power_grows : Grows (power opening inner) (power opening' inner')
  power_grows = placed_grows _ _ (then_grows _ _ _ _ atom_grows (λ base. same_grows _))

  product_grows : Grows (product opening inner) (product opening' inner')
  product_grows = placed_grows _ _ (then_grows _ _ _ _ power_grows
      (λ first. then_grows _ _ _ _ (many_grows _ _ (then_grows _ _ _ _ (same_grows _) (λ s. then_grows _ _ _ _ power_grows (λ x. same_grows _)))) (λ more. same_grows _)))

  sum_over_grows : Grows (sum_over opening inner) (sum_over opening' inner')
  sum_over_grows = placed_grows _ _ (then_grows _ _ _ _ product_grows
      (λ first. then_grows _ _ _ _ (many_grows _ _ (then_grows _ _ _ _ (same_grows _) (λ s. then_grows _ _ _ _ product_grows (λ x. same_grows _)))) (λ more. same_grows _)))

pub sum_from_none : (depth : ℕ) → Grows (sum 0) (sum (suc depth))
unfolding sum
sum_from_none depth = sum_over_grows never (mark marks.LeftParenthesis) never (sum depth) (never_grows _) (never_grows _)

pub sum_grows : (depth : ℕ) → Grows (sum depth) (sum (suc depth))
unfolding sum
sum_grows zero = sum_from_none zero
sum_grows (suc depth) = sum_over_grows (mark marks.LeftParenthesis) (mark marks.LeftParenthesis) (sum depth) (sum (suc depth)) (same_grows _) (sum_grows depth)

-- ---- what has expressions in it

module _ (d e : ℕ) (sums : Grows (sum d) (sum e)) where
  value_grows : Grows (value d) (value e)
  value_grows = or_grows _ _ _ _ (same_grows _) (or_grows _ _ _ _ (same_grows _) (then_grows _ _ _ _ sums (λ x. same_grows _)))

  compare_grows : Grows (compare d) (compare e)
  compare_grows = or_grows _ _ _ _ (then_grows _ _ _ _ (same_grows _) (λ c. then_grows _ _ _ _ sums (λ x. same_grows _))) (same_grows _)

  assignment_grows : Grows (assignment d) (assignment e)
  assignment_grows = then_grows _ _ _ _ (same_grows _) (λ p. then_grows _ _ _ _ (same_grows _) (λ q. then_grows _ _ _ _ value_grows (λ v. same_grows _)))

  declaration_grows : Grows (declaration d) (declaration e)
  declaration_grows = then_grows _ _ _ _ (same_grows _) (λ n. then_grows _ _ _ _ (same_grows _) (λ c. then_grows _ _ _ _ (same_grows _)
      (λ m. then_grows _ _ _ _ (optional_grows _ _ (then_grows _ _ _ _ (same_grows _) (λ q. value_grows))) (λ v. same_grows _))))

  assertion_grows : Grows (assertion d) (assertion e)
  assertion_grows = then_grows _ _ _ _ (same_grows _) (λ k. then_grows _ _ _ _ sums (λ x. then_grows _ _ _ _ compare_grows (λ c. same_grows _)))

  stmt_grows : Grows (stmt d) (stmt e)
  stmt_grows = placed_grows _ _ (or_grows _ _ _ _ (same_grows _) (or_grows _ _ _ _ (same_grows _) (or_grows _ _ _ _ (same_grows _)
      (or_grows _ _ _ _ (same_grows _) (or_grows _ _ _ _ (same_grows _) (or_grows _ _ _ _ assignment_grows
      (or_grows _ _ _ _ (same_grows _) (or_grows _ _ _ _ declaration_grows assertion_grows))))))))

  stmts_line_grows : Grows (stmts_line d) (stmts_line e)
  stmts_line_grows = then_grows _ _ _ _ stmt_grows (λ first. then_grows _ _ _ _ (ended_grows _ _ _ _ _ _ (same_grows _) stmt_grows (same_grows _)) (λ rest. same_grows _))

  body_grows : Grows (body d) (body e)
  body_grows = or_grows _ _ _ _ (then_grows _ _ _ _ stmts_line_grows (λ l. same_grows _))
      (then_grows _ _ _ _ (same_grows _) (λ n. then_grows _ _ _ _ (same_grows _) (λ i. then_grows _ _ _ _ stmts_line_grows
      (λ first. then_grows _ _ _ _ (many_grows _ _ stmts_line_grows) (λ more. same_grows _)))))

  block_grows : Grows (block d) (block e)
  block_grows = then_grows _ _ _ _ (same_grows _) (λ kind. then_grows _ _ _ _ (same_grows _) (λ n. then_grows _ _ _ _ (same_grows _)
      (λ parent. then_grows _ _ _ _ (same_grows _) (λ c. then_grows _ _ _ _ body_grows (λ b. same_grows _)))))

  item_grows : Grows (item d) (item e)
  item_grows = or_grows _ _ _ _ (same_grows _) (then_grows _ _ _ _ block_grows (λ b. same_grows _))

  file_of_sums_grows : Grows (file d) (file e)
  file_of_sums_grows = then_grows _ _ _ _ (many_grows _ _ item_grows) (λ is. same_grows _)

pub file_grows : (depth : ℕ) → Grows (file depth) (file (suc depth))
file_grows depth = file_of_sums_grows depth (suc depth) (sum_grows depth)

-- ---- files of any greater depth

pub spelled_upwards : (d e : ℕ) (f : File) (ts : Tokens) → d ≤ e → IsFile d f ts → IsFile e f ts
unfolding IsFile
spelled_upwards d e f ts le = climbs (λ n. IsFile n f ts) (λ n. (file_grows n).spells f ts) d e le

pub front_upwards : (d e : ℕ) (ts : Tokens) → d ≤ e → FileFront d ts → FileFront e ts
unfolding FileFront
front_upwards d e ts le = climbs (λ n. FileFront n ts) (λ n. (file_grows n).fronts ts) d e le

pub file_upwards : (d e : ℕ) → d ≤ e → Grows (file d) (file e)
unfolding IsFile FileFront
file_upwards d e le = record { spells = λ f ts. spelled_upwards d e f ts le; fronts = λ ts. front_upwards d e ts le }
