-- Worked rows of the grammar: lines, heads, blocks and files.
use Rattle.std.proofs.Common.{ℕ, suc, [], ◌∷◌, true, false, Some, None, refl}
use Rattle.ato_base.specs.declared.keywords.Keyword.TheVariants as keywords
use Rattle.ato_base.specs.declared.keywords.Mark.TheVariants as marks
use Rattle.ato_base.specs.declared.tokens.TokenKind.TheVariants as kinds
use Rattle.ato_ast.specs.declared.stmts.Stmt.TheVariants as stmts
use Rattle.ato_ast.specs.declared.stmts.Stmt.{Stmt}
use Rattle.ato_ast.specs.declared.blocks.BlockKind.TheVariants as blocks
use Rattle.ato_ast.specs.declared.blocks.Line.{Line}
use Rattle.ato_ast.specs.declared.blocks.Head.TheVariants as heads
use Rattle.ato_ast.specs.declared.blocks.Block.{Block}
use Rattle.ato_ast.specs.declared.blocks.Item.TheVariants as items
use Rattle.ato_parser.specs.Pieces.{then_spells, the_one, the_other, no_more, one_more, placed_spells, one_token, nothing}
use Rattle.ato_parser.specs.Statements.{stmt}
use Rattle.ato_parser.specs.Files.{stmts_line, head, block, IsFile}
use Rattle.ato_parser.proofs.RowTokens.{bytes, byte, from, row, word, quote, sign, key, named, quoted, a_name, a_text, a_mark, a_keyword}

-- ---- lines

a_pass : (at : ℕ) → (stmt 0).Spells (stmts.Pass (byte at)) (from at (key keywords.Pass ∷ []))
a_pass at = placed_spells (the_one (then_spells (a_keyword keywords.Pass at) nothing))

-- pass
abbrev one_pass : ℕ → Line Stmt
one_pass at = record { parts = stmts.Pass (byte at) ∷ []; tail = false }

line_of_one : (at : ℕ) → (stmts_line 0).Spells (one_pass at) (from at (key keywords.Pass ∷ kinds.Newline ∷ []))
line_of_one at = then_spells (a_pass at) (then_spells (then_spells no_more (then_spells (the_other nothing) nothing))
    (then_spells (one_token kinds.Newline (byte (suc at)) refl) nothing))

-- pass;
line_with_tail : (stmts_line 0).Spells (record { parts = stmts.Pass (byte 0) ∷ []; tail = true }) (row (key keywords.Pass ∷ sign marks.Semicolon ∷ kinds.Newline ∷ []))
line_with_tail = then_spells (a_pass 0) (then_spells (then_spells no_more (then_spells (the_one (then_spells (then_spells (a_mark marks.Semicolon 1) nothing) nothing)) nothing))
    (then_spells (one_token kinds.Newline (byte 2) refl) nothing))

-- pass; pass
line_of_two : (stmts_line 0).Spells (record { parts = stmts.Pass (byte 0) ∷ stmts.Pass (byte 2) ∷ []; tail = false })
    (row (key keywords.Pass ∷ sign marks.Semicolon ∷ key keywords.Pass ∷ kinds.Newline ∷ []))
line_of_two = then_spells (a_pass 0) (then_spells (then_spells (one_more (then_spells (a_mark marks.Semicolon 1) (a_pass 2)) no_more) (then_spells (the_other nothing) nothing))
    (then_spells (one_token kinds.Newline (byte 3) refl) nothing))

-- pass; pass;
line_of_two_with_tail : (stmts_line 0).Spells (record { parts = stmts.Pass (byte 0) ∷ stmts.Pass (byte 2) ∷ []; tail = true })
    (row (key keywords.Pass ∷ sign marks.Semicolon ∷ key keywords.Pass ∷ sign marks.Semicolon ∷ kinds.Newline ∷ []))
line_of_two_with_tail = then_spells (a_pass 0) (then_spells
    (then_spells (one_more (then_spells (a_mark marks.Semicolon 1) (a_pass 2)) no_more)
    (then_spells (the_one (then_spells (then_spells (a_mark marks.Semicolon 3) nothing) nothing)) nothing))
    (then_spells (one_token kinds.Newline (byte 4) refl) nothing))

-- ---- heads

-- import A from "f"
import_from_file : head.Spells (heads.ImportFrom (named 5 1) (quoted 7 3) (bytes 0 4)) (row (key keywords.Import ∷ word 5 ∷ key keywords.From ∷ quote 7 ∷ []))
import_from_file = placed_spells (the_one (then_spells (a_keyword keywords.Import 0) (then_spells (a_name 5 1)
    (then_spells (a_keyword keywords.From 2) (then_spells (a_text 7 3) nothing)))))

-- import A, B
import_two : head.Spells (heads.Import (named 5 1 ∷ named 6 3 ∷ []) (bytes 0 4)) (row (key keywords.Import ∷ word 5 ∷ sign marks.Comma ∷ word 6 ∷ []))
import_two = placed_spells (the_other (the_one (then_spells (a_keyword keywords.Import 0)
    (then_spells (then_spells (a_name 5 1) (then_spells (one_more (then_spells (a_mark marks.Comma 2) (a_name 6 3)) no_more) nothing)) nothing))))

-- import A
pub import_one : head.Spells (heads.Import (named 5 1 ∷ []) (bytes 0 2)) (row (key keywords.Import ∷ word 5 ∷ []))
import_one = placed_spells (the_other (the_one (then_spells (a_keyword keywords.Import 0) (then_spells (then_spells (a_name 5 1) (then_spells no_more nothing)) nothing))))

-- from "f" import A, B
from_file_two : head.Spells (heads.From (quoted 7 1) (named 5 3 ∷ named 6 5 ∷ []) (bytes 0 6)) (row (key keywords.From ∷ quote 7 ∷ key keywords.Import ∷ word 5 ∷ sign marks.Comma ∷ word 6 ∷ []))
from_file_two = placed_spells (the_other (the_other (the_one (then_spells (a_keyword keywords.From 0) (then_spells (a_text 7 1) (then_spells (a_keyword keywords.Import 2)
    (then_spells (then_spells (a_name 5 3) (then_spells (one_more (then_spells (a_mark marks.Comma 4) (a_name 6 5)) no_more) nothing)) nothing)))))))

-- "s" and pass
head_string : head.Spells (heads.Docs (quoted 7 0)) (row (quote 7 ∷ []))
head_string = placed_spells (the_other (the_other (the_other (the_one (then_spells (a_text 7 0) nothing)))))

head_pass : head.Spells (heads.Pass (byte 0)) (row (key keywords.Pass ∷ []))
head_pass = placed_spells (the_other (the_other (the_other (the_other (then_spells (a_keyword keywords.Pass 0) nothing)))))

-- ---- blocks

-- module A: pass
abbrev inline_block : ℕ → Block
inline_block at = record { kind = blocks.Module; name = named 5 (suc at); parent = None; inline = true; lines = one_pass (suc (suc (suc at))) ∷ [] }

an_inline_body : (at : ℕ) → (block 0).Spells (inline_block at) (from at (key keywords.Module ∷ word 5 ∷ sign marks.Colon ∷ key keywords.Pass ∷ kinds.Newline ∷ []))
an_inline_body at = then_spells (one_token (key keywords.Module) (byte at) refl) (then_spells (a_name 5 (suc at)) (then_spells (the_other nothing)
    (then_spells (a_mark marks.Colon (suc (suc at))) (then_spells (the_one (then_spells (line_of_one (suc (suc (suc at)))) nothing)) nothing))))

-- component A from B: with two lines, pass and pass
an_indented_body : (block 0).Spells (record { kind = blocks.Component; name = named 5 1; parent = Some (named 6 3); inline = false; lines = one_pass 7 ∷ one_pass 9 ∷ [] })
    (row (key keywords.Component ∷ word 5 ∷ key keywords.From ∷ word 6 ∷ sign marks.Colon ∷ kinds.Newline ∷ kinds.Indent ∷ key keywords.Pass ∷ kinds.Newline ∷ key keywords.Pass ∷ kinds.Newline ∷ kinds.Dedent ∷ []))
an_indented_body = then_spells (one_token (key keywords.Component) (byte 0) refl) (then_spells (a_name 5 1)
    (then_spells (the_one (then_spells (then_spells (a_keyword keywords.From 2) (a_name 6 3)) nothing))
    (then_spells (a_mark marks.Colon 4) (then_spells (the_other
    (then_spells (one_token kinds.Newline (byte 5) refl) (then_spells (one_token kinds.Indent (byte 6) refl) (then_spells (line_of_one 7)
    (then_spells (one_more (line_of_one 9) no_more) (then_spells (one_token kinds.Dedent (byte 11) refl) nothing)))))) nothing))))

-- interface A: with one line, pass
a_short_body : (block 0).Spells (record { kind = blocks.Interface; name = named 5 1; parent = None; inline = false; lines = one_pass 5 ∷ [] })
    (row (key keywords.Interface ∷ word 5 ∷ sign marks.Colon ∷ kinds.Newline ∷ kinds.Indent ∷ key keywords.Pass ∷ kinds.Newline ∷ kinds.Dedent ∷ []))
a_short_body = then_spells (one_token (key keywords.Interface) (byte 0) refl) (then_spells (a_name 5 1) (then_spells (the_other nothing)
    (then_spells (a_mark marks.Colon 2) (then_spells (the_other
    (then_spells (one_token kinds.Newline (byte 3) refl) (then_spells (one_token kinds.Indent (byte 4) refl) (then_spells (line_of_one 5)
    (then_spells no_more (then_spells (one_token kinds.Dedent (byte 7) refl) nothing)))))) nothing))))

-- ---- files

-- no line at all
an_empty_file : IsFile 0 (record { items = [] }) (row (kinds.End ∷ []))
unfolding IsFile
an_empty_file = then_spells no_more (then_spells (one_token kinds.End (byte 0) refl) nothing)

-- import A, and module A: pass
a_file : IsFile 0 (record { items = items.Heads (record { parts = heads.Import (named 5 1 ∷ []) (bytes 0 2) ∷ []; tail = false }) ∷ items.Block (inline_block 3) ∷ [] })
    (row (key keywords.Import ∷ word 5 ∷ kinds.Newline ∷ key keywords.Module ∷ word 5 ∷ sign marks.Colon ∷ key keywords.Pass ∷ kinds.Newline ∷ kinds.End ∷ []))
unfolding IsFile
a_file = then_spells (one_more (the_one (then_spells
    (then_spells import_one (then_spells (then_spells no_more (then_spells (the_other nothing) nothing)) (then_spells (one_token kinds.Newline (byte 2) refl) nothing))) nothing))
    (one_more (the_other (then_spells (an_inline_body 3) nothing)) no_more))
    (then_spells (one_token kinds.End (byte 8) refl) nothing)
