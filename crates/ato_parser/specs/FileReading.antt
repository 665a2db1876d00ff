-- Files, read from left to right. Only private functions have clauses in these words.
use Rattle.std.specs.Prelude.{◌≡◌, ◌≢◌, ℕ, ◌||◌, Bool, true, false, is_some, List, [], ◌∷◌, Result, Ok, Err}
use Rattle.ato_base.specs.declared.places.Span.{Span}
use Rattle.ato_base.specs.declared.keywords.Keyword.TheVariants as keywords
use Rattle.ato_base.specs.declared.keywords.Mark.TheVariants as marks
use Rattle.ato_base.specs.declared.tokens.TokenKind.{TokenKind}
use Rattle.ato_ast.specs.declared.names.Named.{Named}
use Rattle.ato_ast.specs.declared.stmts.Stmt.{Stmt}
use Rattle.ato_ast.specs.declared.blocks.Line.{Line}
use Rattle.ato_ast.specs.declared.blocks.Head.{Head}
use Rattle.ato_ast.specs.declared.blocks.Head.TheVariants as heads
use Rattle.ato_ast.specs.declared.blocks.Block.{Block}
use Rattle.ato_ast.specs.declared.blocks.Item.{Item}
use Rattle.ato_ast.specs.declared.blocks.Item.TheVariants as items
use Rattle.ato_ast.specs.declared.blocks.File.{File}
use Rattle.ato_parser.specs.declared.stop.Stop.{Stop}
use Rattle.ato_parser.specs.declared.stop.Stop.TheVariants as stops
use Rattle.ato_parser.specs.Tokens.{Tokens, extent}
use Rattle.ato_parser.specs.Kinds.{is_mark, is_keyword, is_newline, is_indent, is_dedent, text_of, block_of}
use Rattle.ato_parser.specs.Input.{Input, Outcome, Reader, ◌>>=◌, ◌>>◌, pure, one, choose, placed, optional, many, ended, of_kind, mark, keyword, the_end}
use Rattle.ato_parser.specs.Reading.{has, name, text, stmt, starts_stmt}

-- ---- lines and heads

-- over what may stand first in a part
unfoldable pub line : {A : Type 0} → (TokenKind → Bool) → Reader A → Reader (Line A)
line starts part = do
  first ← part
  rest ← ended marks.Semicolon starts part (pure (tt {0}))
  _ ← of_kind is_newline
  pure (record { parts = first ∷ rest.0; tail = is_some rest.1 })

-- the names behind a first one
unfoldable pub more_names : Reader (List Named)
more_names = many (is_mark marks.Comma) (mark marks.Comma >> name)

unfoldable pub names : Reader (List Named)
names = do
  first ← name
  more ← more_names
  pure (first ∷ more)

unfoldable pub imported : Reader (Span → Head)
imported = do
  _ ← keyword keywords.Import
  n ← name
  choose (is_keyword keywords.From)
      (keyword keywords.From >> text >>= λ s. pure (heads.ImportFrom n s))
      (more_names >>= λ more. pure (heads.Import (n ∷ more)))

unfoldable pub from_file : Reader (Span → Head)
from_file = do
  _ ← keyword keywords.From
  s ← text
  _ ← keyword keywords.Import
  ns ← names
  pure (heads.From s ns)

unfoldable pub head : Reader Head
head = placed (
    choose (is_keyword keywords.Import) imported
    (choose (is_keyword keywords.From) from_file
    (choose (has text_of) (text >>= λ s. pure (λ at. heads.Docs s))
    (keyword keywords.Pass >> pure heads.Pass))))

abbrev pub starts_head : TokenKind → Bool
starts_head kind = is_keyword keywords.Import kind || (is_keyword keywords.From kind || (has text_of kind || is_keyword keywords.Pass kind))

abbrev pub starts_item : TokenKind → Bool
starts_item kind = has block_of kind || starts_head kind

-- ---- blocks and files

module _ (depth : ℕ) where
  unfoldable pub stmts_line : Reader (Line Stmt)
  stmts_line = line starts_stmt (stmt depth)

  -- what stands behind the line end of a block's first line
  unfoldable pub indented : Reader (List (Line Stmt))
  indented = do
    _ ← of_kind is_newline
    _ ← of_kind is_indent
    first ← stmts_line
    more ← many starts_stmt stmts_line
    _ ← of_kind is_dedent
    pure (first ∷ more)

  unfoldable pub body : Reader (Bool × List (Line Stmt))
  body =
      choose is_newline (indented >>= λ ls. pure (false, ls))
      (stmts_line >>= λ l. pure (true, l ∷ []))

  unfoldable pub block : Reader Block
  block = do
    kind ← one block_of
    n ← name
    parent ← optional (is_keyword keywords.From) (keyword keywords.From >> name)
    _ ← mark marks.Colon
    b ← body
    pure (record { kind = kind.0; name = n; parent = parent; inline = b.0; lines = b.1 })

  unfoldable pub item : Reader Item
  item =
      choose (has block_of) (block >>= λ b. pure (items.Block b))
      (line starts_head head >>= λ l. pure (items.Heads l))

  unfoldable pub file : Reader File
  file = do
    is ← many starts_item item
    _ ← the_end
    pure (record { items = is })

-- from the start of a file
abbrev pub start : Tokens → Input
start ts = record { last = extent []; ahead = ts }

abbrev pub value_of : {A : Type 0} → Outcome A → Result A Stop
value_of (Ok p) = Ok p.0
value_of (Err e) = Err e

-- the whole tokens of a file
unfoldable pub whole : ℕ → Tokens → Result File Stop
whole depth ts = value_of (file depth (start ts))

-- what is ensured of a whole file: the reading's outcome, unless memory runs out
abbrev pub Gives : {A : Type 0} → Result A Stop → Result A Stop → Type 0
Gives read (Ok a) = read ≡ Ok a
Gives read (Err e) = e ≢ stops.NoMemory → read ≡ Err e
