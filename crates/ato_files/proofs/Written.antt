-- Small sources written by hand, to try definitions on.
use Rattle.std.specs.Prelude.{ℕ, ◌+◌, List, [], ◌∷◌, map, Option, None, false}
use Rattle.ato_base.specs.declared.places.Span.{Span}
use Rattle.ato_ast.specs.declared.names.Named.{Named}
use Rattle.ato_ast.specs.declared.names.Quoted.{Quoted}
use Rattle.ato_ast.specs.declared.paths.Path.{Path}
use Rattle.ato_ast.specs.declared.stmts.Stmt.{Stmt}
use Rattle.ato_ast.specs.declared.blocks.Head.{Head}
use Rattle.ato_ast.specs.declared.blocks.BlockKind.{BlockKind}
use Rattle.ato_ast.specs.declared.blocks.Item.{Item}
use Rattle.ato_ast.specs.declared.blocks.Item.TheVariants as item
use Rattle.ato_files.specs.declared.program.SourceFile.{SourceFile}

abbrev pub span : ℕ → ℕ → ℕ → Span
span file start end = record { file = record { 0 = file }; start = start; end = end }

-- a name of one byte of the entry file
abbrev pub nm : ℕ → ℕ → Named
nm name start = record { name = record { 0 = name }; at = span 1 start (start + 1) }

-- a string of a file, with the offset of its first quote and the length of its contents
abbrev pub quoted : ℕ → ℕ → ℕ → Quoted
quoted file start long = record { contents = span file (start + 1) (start + 1 + long); at = span file start (start + 2 + long) }

abbrev pub path_of : List Named → Path
path_of steps = record { steps = steps; pin = None; at = span 1 0 0 }

abbrev pub heads : List Head → Item
heads hs = item.Heads (record { parts = hs; tail = false })

abbrev pub block : BlockKind → Named → Option Named → List Stmt → Item
block kind name parent stmts = item.Block (record {
  kind = kind;
  name = name;
  parent = parent;
  inline = false;
  lines = map (λ s. record { parts = s ∷ []; tail = false }) stmts;
})

abbrev pub source : List ℕ → List ℕ → List Item → SourceFile
source name bytes items = record { name = name; bytes = bytes; tree = record { items = items } }

abbrev pub library : SourceFile
library = source [] [] []
