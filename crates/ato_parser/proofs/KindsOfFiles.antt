-- Files are written out as the tokens that spell them.
use Rattle.std.proofs.Common.{◌≡◌, ℕ, List, [], ◌∷◌, ◌++◌, flat_map, Bool, false, Option, Some, None, is_some, refl, sym, ap, ◌∙◌, append_assoc, append-nil}
use Rattle.ato_base.specs.declared.keywords.Keyword.TheVariants as keywords
use Rattle.ato_base.specs.declared.keywords.Mark.TheVariants as marks
use Rattle.ato_base.specs.declared.tokens.TokenKind.TheVariants as kinds
use Rattle.ato_ast.specs.declared.names.Named.{Named}
use Rattle.ato_ast.specs.declared.stmts.Stmt.{Stmt}
use Rattle.ato_ast.specs.declared.blocks.BlockKind.{BlockKind}
use Rattle.ato_ast.specs.declared.blocks.Line.{Line}
use Rattle.ato_ast.specs.declared.blocks.Item.{Item}
use Rattle.ato_ast.specs.declared.blocks.File.{File}
use Rattle.ato_ast.specs.PathKinds.{Kinds, marked, named_kind, quoted_kind, names_kinds}
use Rattle.ato_ast.specs.StmtKinds.{stmt_kinds}
use Rattle.ato_ast.specs.FileKinds.{tail_kinds, line_kinds, lines_kinds, head_kinds, block_kind, parent_kinds, body_kinds, block_kinds, item_kinds, file_kinds}
use Rattle.ato_parser.specs.Tokens.{Tokens}
use Rattle.ato_parser.specs.Pieces.{Piece, ◌>>◌, optional}
use Rattle.ato_parser.specs.TokenPieces.{keyword, name}
use Rattle.ato_parser.specs.Statements.{stmt}
use Rattle.ato_parser.specs.Files.{line, names, import_from, import_names, from_file, head, stmts_line, body, block, item, file, IsFile}
use Rattle.ato_parser.proofs.KindsOfPieces.{kinds_in, HasKinds, HasKindsAt, pure_has, then_has, or_has, many_has, placed_has, maybe, optional_has, behind, behind_has, ended_kinds, ended_has, same_has}
use Rattle.ato_parser.proofs.KindsOfTokens.{mark_has, keyword_has, newline_has, indent_has, dedent_has, end_has, name_has, text_has, block_has}
use Rattle.ato_parser.proofs.KindsOfStmts.{stmt_has}

-- ---- lines

-- a last semicolon, or none
maybe_tail : (y : Option Unit) → tail_kinds (is_some y) ≡ maybe (behind (kinds.Mark marks.Semicolon ∷ []) (λ (u : Unit). [])) y
maybe_tail None = refl
maybe_tail (Some u) = refl

-- what stands behind the first part of a line
abbrev rest_kinds : {A : Type 0} → (A → Kinds) → List A × Option Unit → Kinds
rest_kinds part = ended_kinds (kinds.Mark marks.Semicolon ∷ []) part (λ (u : Unit). [])

line_of_kinds : {A : Type 0} (part : A → Kinds) (first : A) (rest : List A × Option Unit)
    → line_kinds part (record { parts = first ∷ rest.0; tail = is_some rest.1 }) ≡ part first ++ (rest_kinds part rest ++ kinds.Newline ∷ [])
line_of_kinds part first (more, y) =
    append_assoc (part first) (marked marks.Semicolon part more) (tail_kinds (is_some y) ++ kinds.Newline ∷ [])
    ∙ ap (λ l. part first ++ l) (sym (append_assoc (marked marks.Semicolon part more) (tail_kinds (is_some y)) (kinds.Newline ∷ [])))
    ∙ ap (λ l. part first ++ ((marked marks.Semicolon part more ++ l) ++ kinds.Newline ∷ [])) (maybe_tail y)

pub line_has : {A : Type 0} (p : Piece A) (part : A → Kinds) → HasKinds p part → HasKinds (line p) (line_kinds part)
line_has p part hp = then_has (λ l. l) _ _ part _ hp
    λ first. then_has (λ l. part first ++ l) _ _ (rest_kinds part) _
    (ended_has _ _ _ (kinds.Mark marks.Semicolon ∷ []) part (λ (u : Unit). []) (mark_has marks.Semicolon) hp (pure_has (λ l. l) (tt {0}) (λ (u : Unit). []) refl))
    λ rest. then_has (λ l. part first ++ (rest_kinds part rest ++ l)) _ _ _ _ newline_has
    λ _. pure_has (λ l. part first ++ (rest_kinds part rest ++ kinds.Newline ∷ l)) _ _ (line_of_kinds part first rest)

-- ---- heads

pub names_has : HasKinds names (names_kinds marks.Comma)
names_has = then_has (λ l. l) _ _ _ _ name_has
    λ n. then_has (λ l. named_kind n ∷ l) _ _ (marked marks.Comma (λ m. named_kind m ∷ [])) _
    (many_has _ (behind (kinds.Mark marks.Comma ∷ []) (λ m. named_kind m ∷ [])) (behind_has _ _ (kinds.Mark marks.Comma ∷ []) _ (mark_has marks.Comma) name_has))
    λ more. pure_has (λ l. named_kind n ∷ (marked marks.Comma (λ m. named_kind m ∷ []) more ++ l)) _ _
    (ap (λ l. named_kind n ∷ l) (sym (append-nil (marked marks.Comma (λ m. named_kind m ∷ []) more))))

import_from_has : HasKindsAt import_from head_kinds
import_from_has at = then_has (λ l. l) _ _ _ _ (keyword_has keywords.Import)
    λ _. then_has (λ l. kinds.Keyword keywords.Import ∷ l) _ _ _ _ name_has
    λ n. then_has (λ l. kinds.Keyword keywords.Import ∷ named_kind n ∷ l) _ _ _ _ (keyword_has keywords.From)
    λ _. then_has (λ l. kinds.Keyword keywords.Import ∷ named_kind n ∷ kinds.Keyword keywords.From ∷ l) _ _ _ _ text_has
    λ s. pure_has (λ l. kinds.Keyword keywords.Import ∷ named_kind n ∷ kinds.Keyword keywords.From ∷ quoted_kind s ∷ l) _ _ refl

import_names_has : HasKindsAt import_names head_kinds
import_names_has at = then_has (λ l. l) _ _ _ _ (keyword_has keywords.Import)
    λ _. then_has (λ l. kinds.Keyword keywords.Import ∷ l) _ _ (names_kinds marks.Comma) _ names_has
    λ ns. pure_has (λ l. kinds.Keyword keywords.Import ∷ (names_kinds marks.Comma ns ++ l)) _ _ (ap (λ l. kinds.Keyword keywords.Import ∷ l) (sym (append-nil (names_kinds marks.Comma ns))))

from_file_has : HasKindsAt from_file head_kinds
from_file_has at = then_has (λ l. l) _ _ _ _ (keyword_has keywords.From)
    λ _. then_has (λ l. kinds.Keyword keywords.From ∷ l) _ _ _ _ text_has
    λ s. then_has (λ l. kinds.Keyword keywords.From ∷ quoted_kind s ∷ l) _ _ _ _ (keyword_has keywords.Import)
    λ _. then_has (λ l. kinds.Keyword keywords.From ∷ quoted_kind s ∷ kinds.Keyword keywords.Import ∷ l) _ _ (names_kinds marks.Comma) _ names_has
    λ ns. pure_has (λ l. kinds.Keyword keywords.From ∷ quoted_kind s ∷ kinds.Keyword keywords.Import ∷ (names_kinds marks.Comma ns ++ l)) _ _
    (ap (λ l. kinds.Keyword keywords.From ∷ quoted_kind s ∷ kinds.Keyword keywords.Import ∷ l) (sym (append-nil (names_kinds marks.Comma ns))))

pub head_has : HasKinds head head_kinds
head_has = placed_has _ head_kinds λ at. or_has (λ l. l) _ _ _ (import_from_has at)
    (or_has (λ l. l) _ _ _ (import_names_has at)
    (or_has (λ l. l) _ _ _ (from_file_has at)
    (or_has (λ l. l) _ _ _ (then_has (λ l. l) _ _ _ _ text_has λ s. pure_has (λ l. quoted_kind s ∷ l) _ _ refl)
    (then_has (λ l. l) _ _ _ _ (keyword_has keywords.Pass) λ _. pure_has (λ l. kinds.Keyword keywords.Pass ∷ l) _ _ refl))))

-- ---- blocks and files

-- a parent, or none
maybe_parent : (n : Option Named) → parent_kinds n ≡ maybe (behind (kinds.Keyword keywords.From ∷ []) (λ m. named_kind m ∷ [])) n
maybe_parent None = refl
maybe_parent (Some n) = refl

parent_has : HasKinds (optional (keyword keywords.From >> name)) parent_kinds
parent_has = same_has (optional (keyword keywords.From >> name)) (maybe (behind (kinds.Keyword keywords.From ∷ []) (λ m. named_kind m ∷ []))) parent_kinds maybe_parent
    (optional_has _ (behind (kinds.Keyword keywords.From ∷ []) (λ m. named_kind m ∷ [])) (behind_has _ _ (kinds.Keyword keywords.From ∷ []) _ (keyword_has keywords.From) name_has))

-- the kinds of a body
abbrev body_written : Bool × List (Line Stmt) → Kinds
body_written b = body_kinds b.0 (lines_kinds b.1)

indented_is : (first : Line Stmt) (more : List (Line Stmt))
    → body_written (false, first ∷ more) ≡ kinds.Newline ∷ kinds.Indent ∷ (line_kinds stmt_kinds first ++ (lines_kinds more ++ kinds.Dedent ∷ []))
indented_is first more = ap (λ l. kinds.Newline ∷ kinds.Indent ∷ l) (append_assoc (line_kinds stmt_kinds first) (lines_kinds more) (kinds.Dedent ∷ []))

module _ (depth : ℕ) where
  stmts_line_has : HasKinds (stmts_line depth) (line_kinds stmt_kinds)
  stmts_line_has = line_has (stmt depth) stmt_kinds (stmt_has depth)

  body_has : HasKinds (body depth) body_written
  body_has = or_has (λ l. l) _ _ _
      (then_has (λ l. l) _ _ (line_kinds stmt_kinds) _ stmts_line_has λ l. pure_has (λ rest. line_kinds stmt_kinds l ++ rest) _ _ refl)
      (then_has (λ l. l) _ _ _ _ newline_has
      λ _. then_has (λ l. kinds.Newline ∷ l) _ _ _ _ indent_has
      λ _. then_has (λ l. kinds.Newline ∷ kinds.Indent ∷ l) _ _ (line_kinds stmt_kinds) _ stmts_line_has
      λ first. then_has (λ l. kinds.Newline ∷ kinds.Indent ∷ (line_kinds stmt_kinds first ++ l)) _ _ lines_kinds _ (many_has _ (line_kinds stmt_kinds) stmts_line_has)
      λ more. then_has (λ l. kinds.Newline ∷ kinds.Indent ∷ (line_kinds stmt_kinds first ++ (lines_kinds more ++ l))) _ _ _ _ dedent_has
      λ _. pure_has (λ l. kinds.Newline ∷ kinds.Indent ∷ (line_kinds stmt_kinds first ++ (lines_kinds more ++ kinds.Dedent ∷ l))) _ _ (indented_is first more))

  block_of_kinds : (k : BlockKind) (n : Named) (parent : Option Named) (b : Bool × List (Line Stmt))
      → block_kinds (record { kind = k; name = n; parent = parent; inline = b.0; lines = b.1 }) ≡ block_kind k ∷ named_kind n ∷ (parent_kinds parent ++ (kinds.Mark marks.Colon ∷ (body_written b ++ [])))
  unfolding block_kinds
  block_of_kinds k n parent b = ap (λ l. block_kind k ∷ named_kind n ∷ (parent_kinds parent ++ (kinds.Mark marks.Colon ∷ l))) (sym (append-nil (body_written b)))

  block_has_kinds : HasKinds (block depth) block_kinds
  block_has_kinds = then_has (λ l. l) _ _ _ _ block_has
      λ k. then_has (λ l. block_kind k.0 ∷ l) _ _ _ _ name_has
      λ n. then_has (λ l. block_kind k.0 ∷ named_kind n ∷ l) _ _ parent_kinds _ parent_has
      λ parent. then_has (λ l. block_kind k.0 ∷ named_kind n ∷ (parent_kinds parent ++ l)) _ _ _ _ (mark_has marks.Colon)
      λ _. then_has (λ l. block_kind k.0 ∷ named_kind n ∷ (parent_kinds parent ++ (kinds.Mark marks.Colon ∷ l))) _ _ body_written _ body_has
      λ b. pure_has (λ l. block_kind k.0 ∷ named_kind n ∷ (parent_kinds parent ++ (kinds.Mark marks.Colon ∷ (body_written b ++ l)))) _ _ (block_of_kinds k.0 n parent b)

  item_has : HasKinds (item depth) item_kinds
  item_has = or_has (λ l. l) _ _ _
      (then_has (λ l. l) _ _ (line_kinds head_kinds) _ (line_has head head_kinds head_has) λ l. pure_has (λ rest. line_kinds head_kinds l ++ rest) _ _ (sym (append-nil (line_kinds head_kinds l))))
      (then_has (λ l. l) _ _ block_kinds _ block_has_kinds λ b. pure_has (λ rest. block_kinds b ++ rest) _ _ (sym (append-nil (block_kinds b))))

  file_of_kinds : (is : List Item) → file_kinds (record { items = is }) ≡ flat_map item_kinds is ++ kinds.End ∷ []
  unfolding file_kinds
  file_of_kinds is = refl

  file_has : HasKinds (file depth) file_kinds
  file_has = then_has (λ l. l) _ _ (flat_map item_kinds) _ (many_has _ item_kinds item_has)
      λ is. then_has (λ l. flat_map item_kinds is ++ l) _ _ _ _ end_has
      λ _. pure_has (λ l. flat_map item_kinds is ++ kinds.End ∷ l) _ _ (file_of_kinds is)

-- A file is its tokens, written out.
pub file_kinds_of : (depth : ℕ) (f : File) (ts : Tokens) → IsFile depth f ts → file_kinds f ≡ kinds_in ts
unfolding IsFile
file_kinds_of depth f ts d = file_has depth f ts d
