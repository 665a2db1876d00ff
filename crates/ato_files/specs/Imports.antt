-- Lists of imports. Only private functions have clauses in these words.
use Rattle.std.specs.Prelude.{List, Option, map}
use Rattle.std.specs.List.{flat_map}
use Rattle.ato_ast.specs.declared.names.Named.{Named}
use Rattle.ato_ast.specs.declared.names.Quoted.{Quoted}
use Rattle.ato_ast.specs.declared.blocks.Item.{Item}
use Rattle.ato_files.specs.Files.{item_heads}
use Rattle.ato_files.specs.Blocks.{head_imports}

-- the names, each with the string of its file
abbrev pub names_from : Option Quoted → List Named → List (Named × Option Quoted)
names_from from names = map (λ name. (name, from)) names

-- the imports of an item
abbrev pub item_imports : Item → List (Named × Option Quoted)
item_imports item = flat_map head_imports (item_heads item)
