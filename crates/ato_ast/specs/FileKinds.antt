-- Lines, heads, blocks and files, written out as the kinds of tokens.
use Rattle.std.specs.Prelude.{Bool, true, false, List, [], ◌∷◌, ◌++◌, Option, Some, None}
use Rattle.std.specs.List.{flat_map}
use Rattle.ato_base.specs.declared.keywords.Keyword.TheVariants as keyword
use Rattle.ato_base.specs.declared.keywords.Mark.TheVariants as mark
use Rattle.ato_base.specs.declared.tokens.TokenKind.{TokenKind}
use Rattle.ato_base.specs.declared.tokens.TokenKind.TheVariants as kinds
use Rattle.ato_ast.specs.declared.names.Named.{Named}
use Rattle.ato_ast.specs.declared.stmts.Stmt.{Stmt}
use Rattle.ato_ast.specs.declared.blocks.Line.{Line}
use Rattle.ato_ast.specs.declared.blocks.Head.{Head}
use Rattle.ato_ast.specs.declared.blocks.Head.TheVariants as head
use Rattle.ato_ast.specs.declared.blocks.BlockKind.{BlockKind}
use Rattle.ato_ast.specs.declared.blocks.BlockKind.TheVariants as block
use Rattle.ato_ast.specs.declared.blocks.Block.{Block}
use Rattle.ato_ast.specs.declared.blocks.Item.{Item}
use Rattle.ato_ast.specs.declared.blocks.Item.TheVariants as item
use Rattle.ato_ast.specs.declared.blocks.File.{File}
use Rattle.ato_ast.specs.PathKinds.{Kinds, joined, named_kind, quoted_kind, names_kinds}
use Rattle.ato_ast.specs.StmtKinds.{stmt_kinds}

abbrev pub tail_kinds : Bool → Kinds
tail_kinds true = kinds.Mark mark.Semicolon ∷ []
tail_kinds false = []

-- line = part { ";" part } [ ";" ] NEWLINE
abbrev pub line_kinds : {S : Type 0} → (S → Kinds) → Line S → Kinds
line_kinds part l = joined mark.Semicolon part l.parts ++ (tail_kinds l.tail ++ kinds.Newline ∷ [])

-- the lines of a block
abbrev pub lines_kinds : List (Line Stmt) → Kinds
lines_kinds lines = flat_map (line_kinds stmt_kinds) lines

-- head = "import" NAME "from" STRING | "import" NAME { "," NAME }
--   | "from" STRING "import" NAME { "," NAME } | STRING | "pass"
abbrev pub head_kinds : Head → Kinds
head_kinds (head.ImportFrom n s at) = kinds.Keyword keyword.Import ∷ named_kind n ∷ kinds.Keyword keyword.From ∷ quoted_kind s ∷ []
head_kinds (head.Import ns at) = kinds.Keyword keyword.Import ∷ names_kinds mark.Comma ns
head_kinds (head.From s ns at) = kinds.Keyword keyword.From ∷ quoted_kind s ∷ kinds.Keyword keyword.Import ∷ names_kinds mark.Comma ns
head_kinds (head.Docs s) = quoted_kind s ∷ []
head_kinds (head.Pass at) = kinds.Keyword keyword.Pass ∷ []

abbrev pub block_kind : BlockKind → TokenKind
block_kind block.Module = kinds.Keyword keyword.Module
block_kind block.Component = kinds.Keyword keyword.Component
block_kind block.Interface = kinds.Keyword keyword.Interface

abbrev pub parent_kinds : Option Named → Kinds
parent_kinds None = []
parent_kinds (Some n) = kinds.Keyword keyword.From ∷ named_kind n ∷ []

-- body = line | NEWLINE INDENT line { line } DEDENT; the first where the block is inline
abbrev pub body_kinds : Bool → Kinds → Kinds
body_kinds true lines = lines
body_kinds false lines = kinds.Newline ∷ kinds.Indent ∷ (lines ++ kinds.Dedent ∷ [])

-- block = ("module"|"component"|"interface") NAME [ "from" NAME ] ":" body
unfoldable pub block_kinds : Block → Kinds
block_kinds b = block_kind b.kind ∷ named_kind b.name
    ∷ (parent_kinds b.parent ++ (kinds.Mark mark.Colon ∷ body_kinds b.inline (lines_kinds b.lines)))

abbrev pub item_kinds : Item → Kinds
item_kinds (item.Heads l) = line_kinds head_kinds l
item_kinds (item.Block b) = block_kinds b

-- file = { headline | block } END
unfoldable pub file_kinds : File → Kinds
file_kinds f = flat_map item_kinds f.items ++ kinds.End ∷ []
