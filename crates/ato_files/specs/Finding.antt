-- Search without an index. Only private functions have clauses in these words.
use Rattle.std.specs.Prelude.{ℕ, Bool, false, ◌&&◌, ◌==◌, List, Option, Some, None, find}
use Rattle.std.specs.List.{flat_map}
use Rattle.ato_ast.specs.declared.names.Named.{Named}
use Rattle.ato_ast.specs.declared.names.Quoted.{Quoted}
use Rattle.ato_ast.specs.declared.blocks.Block.{Block}
use Rattle.ato_ast.specs.declared.blocks.Item.{Item}
use Rattle.ato_files.specs.declared.program.SourceFile.{SourceFile}
use Rattle.ato_files.specs.declared.program.BlockInfo.{BlockInfo}
use Rattle.ato_files.specs.BlockPlaces.{block_at}
use Rattle.ato_files.specs.Imports.{item_imports}

-- the import is of this name
abbrev pub is_of : ℕ → Named × Option Quoted → Bool
is_of name import = import.0.name.0 == name

-- the first import of a name among those of items
abbrev pub import_in : ℕ → List Item → Option (Named × Option Quoted)
import_in name items = find (is_of name) (flat_map item_imports items)

abbrev pub has_name : ℕ → Option Block → Bool
has_name name None = false
has_name name (Some block) = block.name.name.0 == name

-- what is kept is of a block of this file with this name
abbrev pub is_named : List SourceFile → ℕ → ℕ → BlockInfo → Bool
is_named files file name info = (info.file.0 == file) && has_name name (block_at files (record { file = info.file.0; item = info.item }))
