-- Worked rows of the reading of whole files: what is read, and where reading stops.
use Rattle.std.proofs.Common.{◌≡◌, ℕ, zero, suc, ◌+◌, List, [], ◌∷◌, ◌++◌, replicate, Bool, true, false, Some, None, Result, Ok, Err, refl}
use Rattle.ato_base.specs.declared.keywords.Keyword.TheVariants as keywords
use Rattle.ato_base.specs.declared.keywords.Mark.TheVariants as marks
use Rattle.ato_base.specs.declared.tokens.TokenKind.{TokenKind}
use Rattle.ato_base.specs.declared.tokens.TokenKind.TheVariants as kinds
use Rattle.ato_ast.specs.declared.exprs.Expr.{Expr}
use Rattle.ato_ast.specs.declared.exprs.Expr.TheVariants as exprs
use Rattle.ato_ast.specs.declared.exprs.Literal.TheVariants as literals
use Rattle.ato_ast.specs.declared.stmts.Value.TheVariants as values
use Rattle.ato_ast.specs.declared.stmts.Stmt.TheVariants as stmts
use Rattle.ato_ast.specs.declared.stmts.Stmt.{Stmt}
use Rattle.ato_ast.specs.declared.blocks.BlockKind.TheVariants as blocks
use Rattle.ato_ast.specs.declared.blocks.Line.{Line}
use Rattle.ato_ast.specs.declared.blocks.Head.{Head}
use Rattle.ato_ast.specs.declared.blocks.Head.TheVariants as heads
use Rattle.ato_ast.specs.declared.blocks.Item.{Item}
use Rattle.ato_ast.specs.declared.blocks.Item.TheVariants as items
use Rattle.ato_ast.specs.declared.blocks.File.{File}
use Rattle.ato_parser.specs.declared.stop.Stop.{Stop}
use Rattle.ato_parser.specs.declared.stop.Stop.TheVariants as stops
use Rattle.ato_parser.specs.Kinds.{same_mark, same_keyword}
use Rattle.ato_parser.specs.Input.{turns, many, endings, ended}
use Rattle.ato_parser.specs.Reading.{name, text, path, measured, quantity, tolerance, literal, group, absolute, chosen, named_atom, atom, power, product, sum_over, sum, label, point, connected, value, compare, declared_point, assigned, behind_path, assertion, stmt}
use Rattle.ato_parser.specs.Faults.{deepest}
use Rattle.ato_parser.specs.FileReading.{line, more_names, names, imported, from_file, head, stmts_line, indented, body, block, item, file, whole}
use Rattle.ato_parser.proofs.RowTokens.{bytes, byte, row, word, digits, quote, sign, key, named, quoted}
use Rattle.ato_parser.proofs.ExpressionRows.{lone, plain, name_expr}

-- the file of these tokens with END behind them, or where reading stops, with how many tokens are left there
abbrev read : List TokenKind → Result File Stop
read ks = whole deepest (row (ks ++ kinds.End ∷ []))

-- a file of one item
abbrev file_of : Item → Result File Stop
file_of i = Ok (record { items = i ∷ [] })

-- a line of one head
abbrev head_line : Head → Item
head_line h = items.Heads (record { parts = h ∷ []; tail = false })

-- the kinds of a module A on one line, with these in its body
abbrev in_module : List TokenKind → List TokenKind
in_module ks = key keywords.Module ∷ word 5 ∷ sign marks.Colon ∷ (ks ++ kinds.Newline ∷ [])

-- module A with lines behind the colon, or below it
abbrev module_of : Bool → List (Line Stmt) → Item
module_of inline ls = items.Block (record { kind = blocks.Module; name = named 5 1; parent = None; inline = inline; lines = ls })

-- a line of one statement
abbrev stmt_line : Stmt → Line Stmt
stmt_line s = record { parts = s ∷ []; tail = false }

-- no line
no_line : read ([]) ≡ Ok (record { items = [] })
unfolding same_mark same_keyword turns many endings ended name text path measured quantity tolerance literal group absolute chosen named_atom atom power product sum_over sum label point connected value compare declared_point assigned behind_path assertion stmt line more_names names imported from_file head stmts_line indented body block item file whole
no_line = refl

-- ---- heads

-- import A from "f"
import_from_file : read (key keywords.Import ∷ word 5 ∷ key keywords.From ∷ quote 7 ∷ kinds.Newline ∷ []) ≡ file_of (head_line (heads.ImportFrom (named 5 1) (quoted 7 3) (bytes 0 4)))
unfolding same_mark same_keyword turns many endings ended name text path measured quantity tolerance literal group absolute chosen named_atom atom power product sum_over sum label point connected value compare declared_point assigned behind_path assertion stmt line more_names names imported from_file head stmts_line indented body block item file whole
import_from_file = refl

-- import A, B
import_two : read (key keywords.Import ∷ word 5 ∷ sign marks.Comma ∷ word 6 ∷ kinds.Newline ∷ []) ≡ file_of (head_line (heads.Import (named 5 1 ∷ named 6 3 ∷ []) (bytes 0 4)))
unfolding same_mark same_keyword turns many endings ended name text path measured quantity tolerance literal group absolute chosen named_atom atom power product sum_over sum label point connected value compare declared_point assigned behind_path assertion stmt line more_names names imported from_file head stmts_line indented body block item file whole
import_two = refl

-- from "f" import A, B
from_file_two : read (key keywords.From ∷ quote 7 ∷ key keywords.Import ∷ word 5 ∷ sign marks.Comma ∷ word 6 ∷ kinds.Newline ∷ []) ≡ file_of (head_line (heads.From (quoted 7 1) (named 5 3 ∷ named 6 5 ∷ []) (bytes 0 6)))
unfolding same_mark same_keyword turns many endings ended name text path measured quantity tolerance literal group absolute chosen named_atom atom power product sum_over sum label point connected value compare declared_point assigned behind_path assertion stmt line more_names names imported from_file head stmts_line indented body block item file whole
from_file_two = refl

-- "s"; pass;
two_heads : read (quote 7 ∷ sign marks.Semicolon ∷ key keywords.Pass ∷ sign marks.Semicolon ∷ kinds.Newline ∷ []) ≡ file_of (items.Heads (record { parts = heads.Docs (quoted 7 0) ∷ heads.Pass (byte 2) ∷ []; tail = true }))
unfolding same_mark same_keyword turns many endings ended name text path measured quantity tolerance literal group absolute chosen named_atom atom power product sum_over sum label point connected value compare declared_point assigned behind_path assertion stmt line more_names names imported from_file head stmts_line indented body block item file whole
two_heads = refl

-- import A, B from "f"
two_from_file : read (key keywords.Import ∷ word 5 ∷ sign marks.Comma ∷ word 6 ∷ key keywords.From ∷ quote 7 ∷ kinds.Newline ∷ []) ≡ Err (stops.Syntax 4)
unfolding same_mark same_keyword turns many endings ended name text path measured quantity tolerance literal group absolute chosen named_atom atom power product sum_over sum label point connected value compare declared_point assigned behind_path assertion stmt line more_names names imported from_file head stmts_line indented body block item file whole
two_from_file = refl

-- import A from "f", B
from_file_and_more : read (key keywords.Import ∷ word 5 ∷ key keywords.From ∷ quote 7 ∷ sign marks.Comma ∷ word 6 ∷ kinds.Newline ∷ []) ≡ Err (stops.Syntax 4)
unfolding same_mark same_keyword turns many endings ended name text path measured quantity tolerance literal group absolute chosen named_atom atom power product sum_over sum label point connected value compare declared_point assigned behind_path assertion stmt line more_names names imported from_file head stmts_line indented body block item file whole
from_file_and_more = refl

-- import A,
import_with_a_last_comma : read (key keywords.Import ∷ word 5 ∷ sign marks.Comma ∷ kinds.Newline ∷ []) ≡ Err (stops.Syntax 2)
unfolding same_mark same_keyword turns many endings ended name text path measured quantity tolerance literal group absolute chosen named_atom atom power product sum_over sum label point connected value compare declared_point assigned behind_path assertion stmt line more_names names imported from_file head stmts_line indented body block item file whole
import_with_a_last_comma = refl

-- a = 1, which is no head
a_statement_first : read (word 5 ∷ sign marks.Equal ∷ digits 1 ∷ kinds.Newline ∷ []) ≡ Err (stops.Syntax 5)
unfolding same_mark same_keyword turns many endings ended name text path measured quantity tolerance literal group absolute chosen named_atom atom power product sum_over sum label point connected value compare declared_point assigned behind_path assertion stmt line more_names names imported from_file head stmts_line indented body block item file whole
a_statement_first = refl

-- ---- bodies

-- pass
one_line : read (in_module (key keywords.Pass ∷ [])) ≡ file_of (module_of true (stmt_line (stmts.Pass (byte 3)) ∷ []))
unfolding same_mark same_keyword turns many endings ended name text path measured quantity tolerance literal group absolute chosen named_atom atom power product sum_over sum label point connected value compare declared_point assigned behind_path assertion stmt line more_names names imported from_file head stmts_line indented body block item file whole
one_line = refl

-- pass;
a_last_semicolon : read (in_module (key keywords.Pass ∷ sign marks.Semicolon ∷ [])) ≡ file_of (module_of true (record { parts = stmts.Pass (byte 3) ∷ []; tail = true } ∷ []))
unfolding same_mark same_keyword turns many endings ended name text path measured quantity tolerance literal group absolute chosen named_atom atom power product sum_over sum label point connected value compare declared_point assigned behind_path assertion stmt line more_names names imported from_file head stmts_line indented body block item file whole
a_last_semicolon = refl

-- pass; pass
two_statements : read (in_module (key keywords.Pass ∷ sign marks.Semicolon ∷ key keywords.Pass ∷ [])) ≡ file_of (module_of true (record { parts = stmts.Pass (byte 3) ∷ stmts.Pass (byte 5) ∷ []; tail = false } ∷ []))
unfolding same_mark same_keyword turns many endings ended name text path measured quantity tolerance literal group absolute chosen named_atom atom power product sum_over sum label point connected value compare declared_point assigned behind_path assertion stmt line more_names names imported from_file head stmts_line indented body block item file whole
two_statements = refl

-- pass;;
two_semicolons : read (in_module (key keywords.Pass ∷ sign marks.Semicolon ∷ sign marks.Semicolon ∷ [])) ≡ Err (stops.Syntax 3)
unfolding same_mark same_keyword turns many endings ended name text path measured quantity tolerance literal group absolute chosen named_atom atom power product sum_over sum label point connected value compare declared_point assigned behind_path assertion stmt line more_names names imported from_file head stmts_line indented body block item file whole
two_semicolons = refl

-- ; alone
a_semicolon_alone : read (in_module (sign marks.Semicolon ∷ [])) ≡ Err (stops.Syntax 3)
unfolding same_mark same_keyword turns many endings ended name text path measured quantity tolerance literal group absolute chosen named_atom atom power product sum_over sum label point connected value compare declared_point assigned behind_path assertion stmt line more_names names imported from_file head stmts_line indented body block item file whole
a_semicolon_alone = refl

-- an indented body of two lines
an_indented_body : read (key keywords.Module ∷ word 5 ∷ sign marks.Colon ∷ kinds.Newline ∷ kinds.Indent ∷ key keywords.Pass ∷ kinds.Newline ∷ key keywords.Pass ∷ kinds.Newline ∷ kinds.Dedent ∷ []) ≡ file_of (module_of false (stmt_line (stmts.Pass (byte 5)) ∷ stmt_line (stmts.Pass (byte 7)) ∷ []))
unfolding same_mark same_keyword turns many endings ended name text path measured quantity tolerance literal group absolute chosen named_atom atom power product sum_over sum label point connected value compare declared_point assigned behind_path assertion stmt line more_names names imported from_file head stmts_line indented body block item file whole
an_indented_body = refl

-- an empty body
an_empty_body : read (key keywords.Module ∷ word 5 ∷ sign marks.Colon ∷ kinds.Newline ∷ kinds.Indent ∷ kinds.Dedent ∷ []) ≡ Err (stops.Syntax 2)
unfolding same_mark same_keyword turns many endings ended name text path measured quantity tolerance literal group absolute chosen named_atom atom power product sum_over sum label point connected value compare declared_point assigned behind_path assertion stmt line more_names names imported from_file head stmts_line indented body block item file whole
an_empty_body = refl

-- no indent below the colon
no_indent : read (key keywords.Module ∷ word 5 ∷ sign marks.Colon ∷ kinds.Newline ∷ key keywords.Pass ∷ kinds.Newline ∷ []) ≡ Err (stops.Syntax 3)
unfolding same_mark same_keyword turns many endings ended name text path measured quantity tolerance literal group absolute chosen named_atom atom power product sum_over sum label point connected value compare declared_point assigned behind_path assertion stmt line more_names names imported from_file head stmts_line indented body block item file whole
no_indent = refl

-- no dedent behind the lines
no_dedent : read (key keywords.Module ∷ word 5 ∷ sign marks.Colon ∷ kinds.Newline ∷ kinds.Indent ∷ key keywords.Pass ∷ kinds.Newline ∷ []) ≡ Err (stops.Syntax 1)
unfolding same_mark same_keyword turns many endings ended name text path measured quantity tolerance literal group absolute chosen named_atom atom power product sum_over sum label point connected value compare declared_point assigned behind_path assertion stmt line more_names names imported from_file head stmts_line indented body block item file whole
no_dedent = refl

-- a block in a block
a_block_in_a_block : read (key keywords.Module ∷ word 5 ∷ sign marks.Colon ∷ kinds.Newline ∷ kinds.Indent ∷ key keywords.Module ∷ word 6 ∷ sign marks.Colon ∷ key keywords.Pass ∷ kinds.Newline ∷ kinds.Dedent ∷ []) ≡ Err (stops.Syntax 7)
unfolding same_mark same_keyword turns many endings ended name text path measured quantity tolerance literal group absolute chosen named_atom atom power product sum_over sum label point connected value compare declared_point assigned behind_path assertion stmt line more_names names imported from_file head stmts_line indented body block item file whole
a_block_in_a_block = refl

-- a file that begins with an indent
an_indent_first : read (kinds.Indent ∷ key keywords.Pass ∷ kinds.Newline ∷ []) ≡ Err (stops.Syntax 4)
unfolding same_mark same_keyword turns many endings ended name text path measured quantity tolerance literal group absolute chosen named_atom atom power product sum_over sum label point connected value compare declared_point assigned behind_path assertion stmt line more_names names imported from_file head stmts_line indented body block item file whole
an_indent_first = refl

-- a file that begins with a line end
a_line_end_first : read (kinds.Newline ∷ []) ≡ Err (stops.Syntax 2)
unfolding same_mark same_keyword turns many endings ended name text path measured quantity tolerance literal group absolute chosen named_atom atom power product sum_over sum label point connected value compare declared_point assigned behind_path assertion stmt line more_names names imported from_file head stmts_line indented body block item file whole
a_line_end_first = refl

-- ---- statements

-- abs = 1
a_functions_name : read (in_module (word 0 ∷ sign marks.Equal ∷ digits 1 ∷ [])) ≡ file_of (module_of true (stmt_line (stmts.Assign (lone 0 3) (values.Expr (exprs.Literal (literals.One (plain 1 5)) (byte 5))) (bytes 3 6)) ∷ []))
unfolding same_mark same_keyword turns many endings ended name text path measured quantity tolerance literal group absolute chosen named_atom atom power product sum_over sum label point connected value compare declared_point assigned behind_path assertion stmt line more_names names imported from_file head stmts_line indented body block item file whole
a_functions_name = refl

-- a = new B
an_instance : read (in_module (word 5 ∷ sign marks.Equal ∷ key keywords.New ∷ word 6 ∷ [])) ≡ file_of (module_of true (stmt_line (stmts.Make (named 5 3) (named 6 6) (bytes 3 7)) ∷ []))
unfolding same_mark same_keyword turns many endings ended name text path measured quantity tolerance literal group absolute chosen named_atom atom power product sum_over sum label point connected value compare declared_point assigned behind_path assertion stmt line more_names names imported from_file head stmts_line indented body block item file whole
an_instance = refl

-- a : B = 1
a_declaration : read (in_module (word 5 ∷ sign marks.Colon ∷ word 6 ∷ sign marks.Equal ∷ digits 1 ∷ [])) ≡ file_of (module_of true (stmt_line (stmts.Declare (named 5 3) (named 6 5) (Some (values.Expr (exprs.Literal (literals.One (plain 1 7)) (byte 7)))) (bytes 3 8)) ∷ []))
unfolding same_mark same_keyword turns many endings ended name text path measured quantity tolerance literal group absolute chosen named_atom atom power product sum_over sum label point connected value compare declared_point assigned behind_path assertion stmt line more_names names imported from_file head stmts_line indented body block item file whole
a_declaration = refl

-- a = "s"
a_string_assigned : read (in_module (word 5 ∷ sign marks.Equal ∷ quote 7 ∷ [])) ≡ file_of (module_of true (stmt_line (stmts.Assign (lone 5 3) (values.Text (quoted 7 5)) (bytes 3 6)) ∷ []))
unfolding same_mark same_keyword turns many endings ended name text path measured quantity tolerance literal group absolute chosen named_atom atom power product sum_over sum label point connected value compare declared_point assigned behind_path assertion stmt line more_names names imported from_file head stmts_line indented body block item file whole
a_string_assigned = refl

-- a.b = new B: only a name can be made
an_instance_below : read (in_module (word 5 ∷ sign marks.Dot ∷ word 6 ∷ sign marks.Equal ∷ key keywords.New ∷ word 6 ∷ [])) ≡ Err (stops.Syntax 4)
unfolding same_mark same_keyword turns many endings ended name text path measured quantity tolerance literal group absolute chosen named_atom atom power product sum_over sum label point connected value compare declared_point assigned behind_path assertion stmt line more_names names imported from_file head stmts_line indented body block item file whole
an_instance_below = refl

-- a.b : B: only a name can be declared
a_declaration_below : read (in_module (word 5 ∷ sign marks.Dot ∷ word 6 ∷ sign marks.Colon ∷ word 6 ∷ [])) ≡ Err (stops.Syntax 4)
unfolding same_mark same_keyword turns many endings ended name text path measured quantity tolerance literal group absolute chosen named_atom atom power product sum_over sum label point connected value compare declared_point assigned behind_path assertion stmt line more_names names imported from_file head stmts_line indented body block item file whole
a_declaration_below = refl

-- a.1 = new B
an_instance_with_pin : read (in_module (word 5 ∷ sign marks.Dot ∷ digits 1 ∷ sign marks.Equal ∷ key keywords.New ∷ word 6 ∷ [])) ≡ Err (stops.Syntax 4)
unfolding same_mark same_keyword turns many endings ended name text path measured quantity tolerance literal group absolute chosen named_atom atom power product sum_over sum label point connected value compare declared_point assigned behind_path assertion stmt line more_names names imported from_file head stmts_line indented body block item file whole
an_instance_with_pin = refl

-- a.1 : B
a_declaration_with_pin : read (in_module (word 5 ∷ sign marks.Dot ∷ digits 1 ∷ sign marks.Colon ∷ word 6 ∷ [])) ≡ Err (stops.Syntax 4)
unfolding same_mark same_keyword turns many endings ended name text path measured quantity tolerance literal group absolute chosen named_atom atom power product sum_over sum label point connected value compare declared_point assigned behind_path assertion stmt line more_names names imported from_file head stmts_line indented body block item file whole
a_declaration_with_pin = refl

-- a : B = new C
a_declared_instance : read (in_module (word 5 ∷ sign marks.Colon ∷ word 6 ∷ sign marks.Equal ∷ key keywords.New ∷ word 6 ∷ [])) ≡ Err (stops.Syntax 4)
unfolding same_mark same_keyword turns many endings ended name text path measured quantity tolerance literal group absolute chosen named_atom atom power product sum_over sum label point connected value compare declared_point assigned behind_path assertion stmt line more_names names imported from_file head stmts_line indented body block item file whole
a_declared_instance = refl

-- assert a
an_assertion_left_open : read (in_module (key keywords.Assert ∷ word 5 ∷ [])) ≡ Err (stops.Syntax 2)
unfolding same_mark same_keyword turns many endings ended name text path measured quantity tolerance literal group absolute chosen named_atom atom power product sum_over sum label point connected value compare declared_point assigned behind_path assertion stmt line more_names names imported from_file head stmts_line indented body block item file whole
an_assertion_left_open = refl

-- a alone
a_path_alone : read (in_module (word 5 ∷ [])) ≡ Err (stops.Syntax 2)
unfolding same_mark same_keyword turns many endings ended name text path measured quantity tolerance literal group absolute chosen named_atom atom power product sum_over sum label point connected value compare declared_point assigned behind_path assertion stmt line more_names names imported from_file head stmts_line indented body block item file whole
a_path_alone = refl

-- abs(a) = 1: no path
a_call_assigned : read (in_module (word 0 ∷ sign marks.LeftParenthesis ∷ word 5 ∷ sign marks.RightParenthesis ∷ sign marks.Equal ∷ digits 1 ∷ [])) ≡ Err (stops.Syntax 7)
unfolding same_mark same_keyword turns many endings ended name text path measured quantity tolerance literal group absolute chosen named_atom atom power product sum_over sum label point connected value compare declared_point assigned behind_path assertion stmt line more_names names imported from_file head stmts_line indented body block item file whole
a_call_assigned = refl

-- signal 1
a_signal_without_a_name : read (in_module (key keywords.Signal ∷ digits 1 ∷ [])) ≡ Err (stops.Syntax 3)
unfolding same_mark same_keyword turns many endings ended name text path measured quantity tolerance literal group absolute chosen named_atom atom power product sum_over sum label point connected value compare declared_point assigned behind_path assertion stmt line more_names names imported from_file head stmts_line indented body block item file whole
a_signal_without_a_name = refl

-- pin 1.5 is no integer
a_pin_with_point : read (in_module (key keywords.Pin ∷ kinds.Number false None (byte 0) ∷ [])) ≡ Err (stops.Syntax 3)
unfolding same_mark same_keyword turns many endings ended name text path measured quantity tolerance literal group absolute chosen named_atom atom power product sum_over sum label point connected value compare declared_point assigned behind_path assertion stmt line more_names names imported from_file head stmts_line indented body block item file whole
a_pin_with_point = refl

-- pin a ~ b ~ a
two_connections : read (in_module (key keywords.Pin ∷ word 5 ∷ sign marks.Tilde ∷ word 6 ∷ sign marks.Tilde ∷ word 5 ∷ [])) ≡ Err (stops.Syntax 4)
unfolding same_mark same_keyword turns many endings ended name text path measured quantity tolerance literal group absolute chosen named_atom atom power product sum_over sum label point connected value compare declared_point assigned behind_path assertion stmt line more_names names imported from_file head stmts_line indented body block item file whole
two_connections = refl

-- ---- parentheses inside each other

-- A = (((..a..))), with so many parentheses
abbrev nested : ℕ → List TokenKind
nested n = word 5 ∷ sign marks.Equal ∷ (replicate n (sign marks.LeftParenthesis) ++ (word 5 ∷ replicate n (sign marks.RightParenthesis)))

-- the expression in them, from a byte on
abbrev nested_expr : ℕ → ℕ → Expr
nested_expr zero at = name_expr 5 at
nested_expr (suc n) at = exprs.Group (nested_expr n (suc at)) (bytes at (at + (n + (n + 3))))

sixty_four : read (in_module (nested 64)) ≡ file_of (module_of true (stmt_line (stmts.Assign (lone 5 3) (values.Expr (nested_expr 64 5)) (bytes 3 134)) ∷ []))
unfolding same_mark same_keyword turns many endings ended name text path measured quantity tolerance literal group absolute chosen named_atom atom power product sum_over sum label point connected value compare declared_point assigned behind_path assertion stmt line more_names names imported from_file head stmts_line indented body block item file whole
sixty_four = refl

-- the last open parenthesis is one too many
sixty_five : read (in_module (nested 65)) ≡ Err (stops.TooDeep 69)
unfolding same_mark same_keyword turns many endings ended name text path measured quantity tolerance literal group absolute chosen named_atom atom power product sum_over sum label point connected value compare declared_point assigned behind_path assertion stmt line more_names names imported from_file head stmts_line indented body block item file whole
sixty_five = refl
