-- The blocks of a project, and what a name means in a file.
use Rattle.std.specs.Prelude.{ℕ, suc, Bool, is_some, option_to_list, ◌||◌, ◌&&◌, ◌==◌, List, [], ◌∷◌, map, Option, Some, None, position, find}
use Rattle.std.specs.List.{flat_map, list_any}
use Rattle.std.specs.Option.{option_or, option_and_then, option_map}
use Rattle.std.specs.Prelude.{slice_get}
use Rattle.std.specs.Str.{bytes_eq}
use Rattle.ato_ast.specs.declared.names.Named.{Named}
use Rattle.ato_ast.specs.declared.names.Quoted.{Quoted}
use Rattle.ato_ast.specs.declared.blocks.Block.{Block}
use Rattle.ato_ast.specs.declared.blocks.Head.{Head}
use Rattle.ato_ast.specs.declared.blocks.Head.TheVariants as head
use Rattle.ato_ast.specs.declared.blocks.Item.{Item}
use Rattle.ato_ast.specs.declared.blocks.Item.TheVariants as item
use Rattle.ato_files.specs.declared.program.SourceFile.{SourceFile}
use Rattle.ato_files.specs.Lists.{numbered, text_at}
use Rattle.ato_files.specs.Files.{heads_of}

pub record BlockAt : Type 0 where
  pub file : ℕ
  pub item : ℕ
  pub block : Block

abbrev pub item_block : ℕ → ℕ → Item → List BlockAt
item_block file number (item.Heads line) = []
item_block file number (item.Block block) = record { file = file; item = number; block = block } ∷ []

-- the blocks of all files, in source order; a block's number is its place here
abbrev pub blocks_of : List SourceFile → List BlockAt
blocks_of files = flat_map (λ f. flat_map (λ i. item_block f.0 i.0 i.1) (numbered 0 f.1.tree.items)) (numbered 0 files)

abbrev pub block_of : List SourceFile → ℕ → Option BlockAt
block_of files number = slice_get (blocks_of files) number

-- the file's own block of this name
abbrev pub own : List SourceFile → ℕ → ℕ → Option ℕ
own files file name = position (λ b. (b.file == file) && (b.block.name.name.0 == name)) (blocks_of files)

-- the names of an import, each with the string that names its file, if it is not the library
abbrev pub head_imports : Head → List (Named × Option Quoted)
head_imports (head.ImportFrom name from at) = (name, Some from) ∷ []
head_imports (head.From from names at) = map (λ name. (name, Some from)) names
head_imports (head.Import names at) = map (λ name. (name, None)) names
head_imports (head.Docs text) = []
head_imports (head.Pass at) = []

abbrev pub imports_of : SourceFile → List (Named × Option Quoted)
imports_of file = flat_map head_imports (heads_of file)

-- the number of the file that an import takes from
abbrev pub import_file : List SourceFile → SourceFile → Option Quoted → Option ℕ
import_file files file None = Some 0
import_file [] file (Some from) = None
import_file (library ∷ files) file (Some from) = option_map suc (position (λ f. bytes_eq (text_at file.bytes from.contents) f.name) files)

-- An import takes a block of that file's own.
abbrev pub imported : List SourceFile → SourceFile → Named × Option Quoted → Option ℕ
imported files file import = option_and_then (λ from. own files from import.0.name.0) (import_file files file import.1)

-- the number of the block that a name means in a file: its own, or the imported one
abbrev pub meaning : List SourceFile → ℕ → ℕ → Option ℕ
meaning files file name = option_or (own files file name)
    (option_and_then (λ f. option_and_then (imported files f) (find (λ import. import.0.name.0 == name) (imports_of f)))
    (slice_get files file))

-- the name is one of the file's: that of a block or of an import, also of one that takes a block which is not there
abbrev pub is_known : List SourceFile → ℕ → ℕ → Bool
is_known files file name = is_some (own files file name)
    || list_any (λ f. list_any (λ import. import.0.name.0 == name) (imports_of f)) (option_to_list (slice_get files file))

-- what a name means in the file of a block
abbrev pub meaning_in : List SourceFile → ℕ → ℕ → Option ℕ
meaning_in files block name = option_and_then (λ b. meaning files b.file name) (block_of files block)
