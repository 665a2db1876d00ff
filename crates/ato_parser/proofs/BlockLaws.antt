-- Blocks and files are read.
use Rattle.std.proofs.Common.{ℕ, true, false, [], ◌∷◌, ◌++◌, refl}
use Rattle.ato_base.specs.declared.keywords.Keyword.TheVariants as keywords
use Rattle.ato_base.specs.declared.keywords.Mark.TheVariants as marks
use Rattle.ato_ast.specs.declared.blocks.Item.TheVariants as items
use Rattle.ato_parser.specs.Kinds.{same_mark, same_keyword, is_keyword, is_newline, is_indent, is_dedent, text_of, block_of}
use Rattle.ato_parser.specs.Files as F
use Rattle.ato_parser.specs.Reading.{has, is_name, starts_point, starts_stmt}
use Rattle.ato_parser.specs.FileReading.{starts_head, starts_item}
use Rattle.ato_parser.specs.FileReading as R
use Rattle.ato_parser.proofs.Classes.{Classes, a_name, a_text, a_newline, an_indent, a_dedent, an_end, a_keyword, Tests}
use Rattle.ato_parser.proofs.Lawful.{Lawful}
use Rattle.ato_parser.proofs.ClassLaws.{name_tests, text_tests, keyword_tests, newline_tests, indent_tests, dedent_tests, block_tests, tests_within, or_tests}
use Rattle.ato_parser.proofs.OneLaws.{one_lawful, mark_lawful, keyword_lawful, of_kind_lawful, end_lawful}
use Rattle.ato_parser.proofs.ThenLaws.{then_lawful, map_lawful}
use Rattle.ato_parser.proofs.OrLaws.{or_lawful}
use Rattle.ato_parser.proofs.SameLaws.{same_sym, lawful_same}
use Rattle.ato_parser.proofs.HeadSame.{indented, body_same, item_same}
use Rattle.ato_parser.proofs.PointLaws.{point_starts, starts_point_tests}
use Rattle.ato_parser.proofs.StmtLaws.{stmt_starts, stmt_lawful}
use Rattle.ato_parser.proofs.LineLaws.{head_starts, starts_head_tests, line_lawful, head_line_lawful}
use Rattle.ato_parser.proofs.ManyLaws.{many_lawful}
use Rattle.ato_parser.proofs.PlacedLaws.{optional_lawful}
use Rattle.ato_parser.proofs.LiteralLaws.{name_lawful}

-- ---- what begins what

pub starts_stmt_tests : Tests starts_stmt stmt_starts
starts_stmt_tests =
    let words = or_tests (is_keyword keywords.Pass) (is_keyword keywords.Assert) (a_keyword keywords.Pass ∷ []) (a_keyword keywords.Assert ∷ []) (keyword_tests keywords.Pass) (keyword_tests keywords.Assert) in
    let points = or_tests starts_point _ point_starts (a_keyword keywords.Pass ∷ a_keyword keywords.Assert ∷ []) starts_point_tests words in
    let docs = or_tests (has text_of) _ (a_text ∷ []) (point_starts ++ a_keyword keywords.Pass ∷ a_keyword keywords.Assert ∷ []) text_tests points in
    or_tests is_name _ (a_name ∷ []) (a_text ∷ point_starts ++ a_keyword keywords.Pass ∷ a_keyword keywords.Assert ∷ []) name_tests docs

abbrev pub block_starts : Classes
block_starts = a_keyword keywords.Module ∷ a_keyword keywords.Component ∷ a_keyword keywords.Interface ∷ []

abbrev pub item_starts : Classes
item_starts = block_starts ++ head_starts

pub starts_item_tests : Tests starts_item item_starts
starts_item_tests = or_tests (has block_of) starts_head block_starts head_starts block_tests starts_head_tests

abbrev pub file_starts : Classes
file_starts = an_end ∷ item_starts

-- ---- blocks

module _ (depth : ℕ) where
  pub stmts_line_lawful : Lawful (F.stmts_line depth) (R.stmts_line depth) stmt_starts [] false
  unfolding R.stmts_line same_mark same_keyword
  stmts_line_lawful = line_lawful starts_stmt stmt_starts starts_stmt_tests (stmt_lawful depth) refl refl refl refl

  pub indented_lawful : Lawful (indented depth) (R.indented depth) (a_newline ∷ []) [] false
  unfolding R.indented same_keyword
  indented_lawful =
      then_lawful (of_kind_lawful is_newline (a_newline ∷ []) newline_tests refl) (λ _.
      then_lawful (of_kind_lawful is_indent (an_indent ∷ []) indent_tests refl) (λ _.
      then_lawful stmts_line_lawful (λ first.
      then_lawful (many_lawful starts_stmt stmt_starts starts_stmt_tests stmts_line_lawful refl refl) (λ more.
      map_lawful (λ _. first ∷ more) (of_kind_lawful is_dedent (a_dedent ∷ []) dedent_tests refl)) refl) refl) refl) refl

  pub body_lawful : Lawful (F.body depth) (R.body depth) (a_newline ∷ stmt_starts) [] false
  unfolding R.body
  body_lawful = lawful_same (same_sym (body_same depth))
      (or_lawful is_newline (a_newline ∷ []) newline_tests (map_lawful (λ ls. (false, ls)) indented_lawful) (map_lawful (λ l. (true, l ∷ [])) stmts_line_lawful) refl refl)

  pub block_lawful : Lawful (F.block depth) (R.block depth) block_starts [] false
  unfolding R.block same_mark same_keyword
  block_lawful =
      then_lawful (one_lawful block_of block_starts (tests_within block_of block_starts block_tests) refl) (λ kind.
      then_lawful name_lawful (λ n.
      then_lawful (optional_lawful (is_keyword keywords.From) (a_keyword keywords.From ∷ []) (keyword_tests keywords.From) (then_lawful (keyword_lawful keywords.From) (λ _. name_lawful) refl) refl) (λ parent.
      then_lawful (mark_lawful marks.Colon) (λ _.
      map_lawful (λ b. record { kind = kind.0; name = n; parent = parent; inline = b.0; lines = b.1 }) body_lawful) refl) refl) refl) refl

  -- ---- files

  pub item_lawful : Lawful (F.item depth) (R.item depth) item_starts [] false
  unfolding R.item same_keyword
  item_lawful = lawful_same (same_sym (item_same depth))
      (or_lawful (has block_of) block_starts block_tests (map_lawful items.Block block_lawful) (map_lawful items.Heads head_line_lawful) refl refl)

  pub file_lawful : Lawful (F.file depth) (R.file depth) file_starts [] false
  unfolding R.file same_keyword
  file_lawful = then_lawful (many_lawful starts_item item_starts starts_item_tests item_lawful refl refl) (λ is. map_lawful (λ _. record { items = is }) end_lawful) refl
