-- The grammar of files.
use Rattle.std.specs.Prelude.{ℕ, Bool, true, false, List, [], ◌∷◌, is_some}
use Rattle.ato_base.specs.declared.places.Span.{Span}
use Rattle.ato_base.specs.declared.keywords.Keyword.TheVariants as keywords
use Rattle.ato_base.specs.declared.keywords.Mark.TheVariants as marks
use Rattle.ato_ast.specs.declared.names.Named.{Named}
use Rattle.ato_ast.specs.declared.stmts.Stmt.{Stmt}
use Rattle.ato_ast.specs.declared.blocks.Line.{Line}
use Rattle.ato_ast.specs.declared.blocks.Head.{Head}
use Rattle.ato_ast.specs.declared.blocks.Head.TheVariants as heads
use Rattle.ato_ast.specs.declared.blocks.Block.{Block}
use Rattle.ato_ast.specs.declared.blocks.Item.{Item}
use Rattle.ato_ast.specs.declared.blocks.Item.TheVariants as items
use Rattle.ato_ast.specs.declared.blocks.File.{File}
use Rattle.ato_parser.specs.Tokens.{Tokens}
use Rattle.ato_parser.specs.Kinds.{is_newline, is_indent, is_dedent, block_of}
use Rattle.ato_parser.specs.Pieces.{Piece, pure, one, ◌>>=◌, ◌>>◌, ◌or◌, many, placed, optional, ended}
use Rattle.ato_parser.specs.TokenPieces.{of_kind, mark, keyword, name, text, the_end}
use Rattle.ato_parser.specs.Statements.{stmt}

abbrev pub newline : Piece (Unit × Span)
newline = of_kind is_newline

-- part { ";" part } [ ";" ] NEWLINE
abbrev pub line : {A : Type 0} → Piece A → Piece (Line A)
line part = do
  first ← part
  rest ← ended (mark marks.Semicolon) part (pure (tt {0}))
  _ ← newline
  pure (record { parts = first ∷ rest.0; tail = is_some rest.1 })

-- ---- heads

-- NAME { "," NAME }
abbrev pub names : Piece (List Named)
names = do
  first ← name
  more ← many (mark marks.Comma >> name)
  pure (first ∷ more)

-- "import" NAME "from" STRING
abbrev pub import_from : Piece (Span → Head)
import_from = do
  _ ← keyword keywords.Import
  n ← name
  _ ← keyword keywords.From
  s ← text
  pure (heads.ImportFrom n s)

-- "import" NAME { "," NAME }
abbrev pub import_names : Piece (Span → Head)
import_names = do
  _ ← keyword keywords.Import
  ns ← names
  pure (heads.Import ns)

-- "from" STRING "import" NAME { "," NAME }
abbrev pub from_file : Piece (Span → Head)
from_file = do
  _ ← keyword keywords.From
  s ← text
  _ ← keyword keywords.Import
  ns ← names
  pure (heads.From s ns)

-- head = "import" NAME "from" STRING | "import" NAME { "," NAME } | "from" STRING "import" NAME { "," NAME }
--      | STRING | "pass"
abbrev pub head : Piece Head
head = placed (import_from or import_names or from_file
    or (text >>= λ s. pure (λ at. heads.Docs s))
    or (keyword keywords.Pass >> pure heads.Pass))

-- headline = head { ";" head } [ ";" ] NEWLINE
abbrev pub headline : Piece (Line Head)
headline = line head

-- ---- blocks and files

-- Files whose expressions have parentheses at most this many deep inside each other.
module _ (depth : ℕ) where
  -- line = stmt { ";" stmt } [ ";" ] NEWLINE
  abbrev pub stmts_line : Piece (Line Stmt)
  stmts_line = line (stmt depth)

  -- body = line | NEWLINE INDENT line { line } DEDENT; whether it stands behind the colon, and its lines
  abbrev pub body : Piece (Bool × List (Line Stmt))
  body = (stmts_line >>= λ l. pure (true, l ∷ []))
      or (do
        _ ← newline
        _ ← of_kind is_indent
        first ← stmts_line
        more ← many stmts_line
        _ ← of_kind is_dedent
        pure (false, first ∷ more))

  -- block = ("module" | "component" | "interface") NAME [ "from" NAME ] ":" body
  abbrev pub block : Piece Block
  block = do
    kind ← one block_of
    n ← name
    parent ← optional (keyword keywords.From >> name)
    _ ← mark marks.Colon
    b ← body
    pure (record { kind = kind.0; name = n; parent = parent; inline = b.0; lines = b.1 })

  -- headline | block
  abbrev pub item : Piece Item
  item = (headline >>= λ l. pure (items.Heads l))
      or (block >>= λ b. pure (items.Block b))

  -- file = { headline | block } END
  abbrev pub file : Piece File
  file = do
    is ← many item
    _ ← the_end
    pure (record { items = is })

-- The tokens spell the file, with parentheses at most this many deep inside each other.
unfoldable pub IsFile : ℕ → File → Tokens → Type 0
IsFile depth = (file depth).Spells

-- The tokens begin a file, with parentheses at most this many deep inside each other.
unfoldable pub FileFront : ℕ → Tokens → Type 0
FileFront depth = (file depth).Front
