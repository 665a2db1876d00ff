-- Statements, blocks and files: their fronts begin and go on.
use Rattle.std.proofs.Common.{ℕ, true, false, [], ◌∷◌, refl, is_some}
use Rattle.ato_base.specs.declared.keywords.Keyword.TheVariants as keywords
use Rattle.ato_base.specs.declared.keywords.Mark.TheVariants as marks
use Rattle.ato_base.specs.declared.tokens.TokenKind.TheVariants as kinds
use Rattle.ato_ast.specs.declared.paths.Label.TheVariants as labels
use Rattle.ato_ast.specs.declared.paths.Point.TheVariants as points
use Rattle.ato_ast.specs.declared.stmts.End.TheVariants as ends
use Rattle.ato_ast.specs.declared.stmts.Value.TheVariants as values
use Rattle.ato_ast.specs.declared.stmts.Compare.TheVariants as compares
use Rattle.ato_ast.specs.declared.stmts.Stmt.TheVariants as stmts
use Rattle.ato_ast.specs.declared.blocks.Head.TheVariants as heads
use Rattle.ato_ast.specs.declared.blocks.Item.TheVariants as items
use Rattle.ato_parser.specs.Tokens.{is_end}
use Rattle.ato_parser.specs.Kinds.{truth_of, comparison_of, block_of, is_newline, is_indent, is_dedent}
use Rattle.ato_parser.specs.Pieces.{Piece}
use Rattle.ato_parser.specs.Statements.{label, point, connected, value, compare, passed, documented, declared_point, connection, replacement, assignment, instance_made, declaration, assertion, stmt}
use Rattle.ato_parser.specs.Files.{newline, line, names, import_from, import_names, from_file, head, stmts_line, body, block, item, file, FileFront}
use Rattle.ato_parser.proofs.Natural.{Natural, pure_natural, one_natural, then_natural, or_natural, many_natural, placed_natural, optional_natural, ended_natural}
use Rattle.ato_parser.proofs.NaturalPieces.{kind_natural, mark_natural, keyword_natural, name_natural, text_natural, integer_natural, path_natural, literal_natural}
use Rattle.ato_parser.proofs.NaturalSums.{sum_natural}

-- ---- statements

label_natural : Natural label
label_natural = or_natural _ _ (then_natural _ _ name_natural (λ n. pure_natural (labels.Name n)))
    (or_natural _ _ (then_natural _ _ integer_natural (λ n. pure_natural (labels.Number n.0 n.1)))
    (then_natural _ _ text_natural (λ s. pure_natural (labels.Text s))))

point_natural : Natural point
point_natural = placed_natural _ (or_natural _ _
    (then_natural _ _ (keyword_natural keywords.Signal) (λ k. then_natural _ _ name_natural (λ n. pure_natural (points.Signal n))))
    (then_natural _ _ (keyword_natural keywords.Pin) (λ k. then_natural _ _ label_natural (λ l. pure_natural (points.Pin l)))))

connected_natural : Natural connected
connected_natural = or_natural _ _ (then_natural _ _ point_natural (λ p. pure_natural (ends.Point p)))
    (then_natural _ _ path_natural (λ p. pure_natural (ends.Path p)))

module _ (depth : ℕ) where
  value_natural : Natural (value depth)
  value_natural = or_natural _ _ (then_natural _ _ text_natural (λ s. pure_natural (values.Text s)))
      (or_natural _ _ (then_natural _ _ (one_natural truth_of (kinds.Keyword keywords.True) _ refl) (λ t. pure_natural (values.Truth t.0 t.1)))
      (then_natural _ _ (sum_natural depth) (λ x. pure_natural (values.Expr x))))

  compare_natural : Natural (compare depth)
  compare_natural = or_natural _ _
      (then_natural _ _ (one_natural comparison_of (kinds.Mark marks.Less) _ refl) (λ c. then_natural _ _ (sum_natural depth) (λ x. pure_natural (compares.Sides c.0 x))))
      (then_natural _ _ (keyword_natural keywords.Within) (λ k. then_natural _ _ literal_natural
      (λ first. then_natural _ _ (many_natural _ (then_natural _ _ (mark_natural marks.Bar) (λ b. literal_natural)))
      (λ more. pure_natural (compares.Within (first ∷ more))))))

  passed_natural : Natural (passed depth)
  passed_natural = then_natural _ _ (keyword_natural keywords.Pass) (λ k. pure_natural stmts.Pass)

  documented_natural : Natural (documented depth)
  documented_natural = then_natural _ _ text_natural (λ s. pure_natural (λ at. stmts.Docs s))

  declared_point_natural : Natural (declared_point depth)
  declared_point_natural = then_natural _ _ point_natural
      (λ p. then_natural _ _ (optional_natural _ (then_natural _ _ (mark_natural marks.Tilde) (λ t. connected_natural)))
      (λ e. pure_natural (stmts.Point p e)))

  connection_natural : Natural (connection depth)
  connection_natural = then_natural _ _ path_natural (λ p. then_natural _ _ (mark_natural marks.Tilde) (λ t. then_natural _ _ connected_natural (λ e. pure_natural (stmts.Connect p e))))

  replacement_natural : Natural (replacement depth)
  replacement_natural = then_natural _ _ path_natural (λ p. then_natural _ _ (mark_natural marks.Arrow) (λ a. then_natural _ _ name_natural (λ n. pure_natural (stmts.Replace p n))))

  assignment_natural : Natural (assignment depth)
  assignment_natural = then_natural _ _ path_natural (λ p. then_natural _ _ (mark_natural marks.Equal) (λ e. then_natural _ _ value_natural (λ v. pure_natural (stmts.Assign p v))))

  instance_made_natural : Natural (instance_made depth)
  instance_made_natural = then_natural _ _ name_natural (λ n. then_natural _ _ (mark_natural marks.Equal) (λ e. then_natural _ _ (keyword_natural keywords.New)
      (λ k. then_natural _ _ name_natural (λ m. pure_natural (stmts.Make n m)))))

  declaration_natural : Natural (declaration depth)
  declaration_natural = then_natural _ _ name_natural (λ n. then_natural _ _ (mark_natural marks.Colon) (λ c. then_natural _ _ name_natural
      (λ m. then_natural _ _ (optional_natural _ (then_natural _ _ (mark_natural marks.Equal) (λ e. value_natural)))
      (λ v. pure_natural (stmts.Declare n m v)))))

  assertion_natural : Natural (assertion depth)
  assertion_natural = then_natural _ _ (keyword_natural keywords.Assert) (λ k. then_natural _ _ (sum_natural depth) (λ x. then_natural _ _ compare_natural (λ c. pure_natural (stmts.Assert x c))))

  stmt_natural : Natural (stmt depth)
  stmt_natural = placed_natural _ (or_natural _ _ passed_natural (or_natural _ _ documented_natural (or_natural _ _ declared_point_natural
      (or_natural _ _ connection_natural (or_natural _ _ replacement_natural (or_natural _ _ assignment_natural
      (or_natural _ _ instance_made_natural (or_natural _ _ declaration_natural assertion_natural))))))))

-- ---- lines and heads

newline_natural : Natural newline
newline_natural = kind_natural is_newline kinds.Newline refl

line_natural : {A : Type 0} (part : Piece A) → Natural part → Natural (line part)
line_natural part pn = then_natural _ _ pn
    (λ first. then_natural _ _ (ended_natural _ _ _ (mark_natural marks.Semicolon) pn (pure_natural (tt {0})))
    (λ rest. then_natural _ _ newline_natural
    (λ n. pure_natural (record { parts = first ∷ rest.0; tail = is_some rest.1 }))))

names_natural : Natural names
names_natural = then_natural _ _ name_natural
    (λ first. then_natural _ _ (many_natural _ (then_natural _ _ (mark_natural marks.Comma) (λ c. name_natural)))
    (λ more. pure_natural (first ∷ more)))

import_from_natural : Natural import_from
import_from_natural = then_natural _ _ (keyword_natural keywords.Import) (λ k. then_natural _ _ name_natural (λ n. then_natural _ _ (keyword_natural keywords.From)
    (λ f. then_natural _ _ text_natural (λ s. pure_natural (heads.ImportFrom n s)))))

import_names_natural : Natural import_names
import_names_natural = then_natural _ _ (keyword_natural keywords.Import) (λ k. then_natural _ _ names_natural (λ ns. pure_natural (heads.Import ns)))

from_file_natural : Natural from_file
from_file_natural = then_natural _ _ (keyword_natural keywords.From) (λ f. then_natural _ _ text_natural (λ s. then_natural _ _ (keyword_natural keywords.Import)
    (λ k. then_natural _ _ names_natural (λ ns. pure_natural (heads.From s ns)))))

head_natural : Natural head
head_natural = placed_natural _ (or_natural _ _ import_from_natural (or_natural _ _ import_names_natural (or_natural _ _ from_file_natural
    (or_natural _ _ (then_natural _ _ text_natural (λ s. pure_natural (λ at. heads.Docs s)))
    (then_natural _ _ (keyword_natural keywords.Pass) (λ k. pure_natural heads.Pass))))))

-- ---- blocks and files

module _ (depth : ℕ) where
  stmts_line_natural : Natural (stmts_line depth)
  stmts_line_natural = line_natural _ (stmt_natural depth)

  body_natural : Natural (body depth)
  body_natural = or_natural _ _ (then_natural _ _ stmts_line_natural (λ l. pure_natural (true, l ∷ [])))
      (then_natural _ _ newline_natural (λ n. then_natural _ _ (kind_natural is_indent kinds.Indent refl) (λ i. then_natural _ _ stmts_line_natural
      (λ first. then_natural _ _ (many_natural _ stmts_line_natural)
      (λ more. then_natural _ _ (kind_natural is_dedent kinds.Dedent refl) (λ d. pure_natural (false, first ∷ more)))))))

  block_natural : Natural (block depth)
  block_natural = then_natural _ _ (one_natural block_of (kinds.Keyword keywords.Module) _ refl)
      (λ kind. then_natural _ _ name_natural
      (λ n. then_natural _ _ (optional_natural _ (then_natural _ _ (keyword_natural keywords.From) (λ f. name_natural)))
      (λ parent. then_natural _ _ (mark_natural marks.Colon)
      (λ c. then_natural _ _ body_natural
      (λ b. pure_natural (record { kind = kind.0; name = n; parent = parent; inline = b.0; lines = b.1 }))))))

  item_natural : Natural (item depth)
  item_natural = or_natural _ _ (then_natural _ _ (line_natural _ head_natural) (λ l. pure_natural (items.Heads l)))
      (then_natural _ _ block_natural (λ b. pure_natural (items.Block b)))

  pub file_natural : Natural (file depth)
  file_natural = then_natural _ _ (many_natural _ item_natural)
      (λ is. then_natural _ _ (kind_natural is_end kinds.End refl) (λ e. pure_natural (record { items = is })))

  -- no tokens begin a file
  pub file_opens : FileFront depth []
  unfolding FileFront
  file_opens = file_natural.opens
