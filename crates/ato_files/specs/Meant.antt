-- What is kept of the meanings of names. Of these words only `AreMeanings` stands in clauses of public functions.
use Rattle.std.specs.Prelude.{◌≡◌, ◌||◌, Bool, is_some, ℕ, List, map, Option, Some, None, slice_get}
use Rattle.std.specs.List.{flat_map}
use Rattle.std.specs.Option.{option_or, option_and_then}
use Rattle.ato_ast.specs.declared.names.Named.{Named}
use Rattle.ato_ast.specs.declared.names.Quoted.{Quoted}
use Rattle.ato_files.specs.declared.program.SourceFile.{SourceFile}
use Rattle.ato_files.specs.declared.own_names.OwnNames.{OwnNames}
use Rattle.ato_files.specs.declared.meanings.Meanings.{Meanings}
use Rattle.ato_files.specs.Lists.{numbered}
use Rattle.ato_files.specs.Blocks.{BlockAt, blocks_of, imports_of, imported, is_known, meaning}
use Rattle.ato_files.specs.FileMaps.{AreNumbers}
use Rattle.ato_files.specs.NameMaps.{held, AreFirst}

-- the inner option
abbrev pub joined : Option (Option ℕ) → Option ℕ
joined None = None
joined (Some o) = o

-- ---- own blocks

-- a block's name in its file, and the block's number
abbrev pub own_pair : ℕ × BlockAt → (ℕ × ℕ) × Option ℕ
own_pair b = ((b.1.file, b.1.block.name.name.0), Some b.0)

abbrev pub own_pairs : List SourceFile → List ((ℕ × ℕ) × Option ℕ)
own_pairs files = map own_pair (numbered 0 (blocks_of files))

-- The names of own blocks and of files are held.
pub record AreOwn (names : OwnNames) : Type 0 where
  pub own : AreFirst (own_pairs names.files.now) names.own
  pub numbers : AreNumbers names.files.now names.numbers

-- ---- imports

-- an imported name in its file, and what it takes
abbrev pub import_pair : List SourceFile → ℕ → SourceFile → Named × Option Quoted → (ℕ × ℕ) × Option ℕ
import_pair files number file import = ((number, import.0.name.0), imported files file import)

abbrev pub file_pairs : List SourceFile → ℕ × SourceFile → List ((ℕ × ℕ) × Option ℕ)
file_pairs files f = map (import_pair files f.0 f.1) (imports_of f.1)

abbrev pub import_pairs : List SourceFile → List ((ℕ × ℕ) × Option ℕ)
import_pairs files = flat_map (file_pairs files) (numbered 0 files)

-- what the imports of a file take
abbrev pub targets_in : List SourceFile → SourceFile → List (Option ℕ)
targets_in files file = map (imported files file) (imports_of file)

-- what an import of a file takes, both by their numbers
abbrev pub target : List SourceFile → ℕ → ℕ → Option ℕ
target files file import = option_and_then (λ f. option_and_then (imported files f) (slice_get (imports_of f) import)) (slice_get files file)

-- ---- meanings

-- what is kept of a name's meaning in a file
abbrev pub found : Meanings → ℕ → ℕ → Option ℕ
found m file name = option_or (joined (held m.own file name)) (joined (held m.imported file name))

-- what is kept of an import
abbrev pub taken : Meanings → ℕ → ℕ → Option ℕ
taken m file import = option_and_then (λ ts. joined (slice_get ts import)) (slice_get m.targets file)

-- whether a file has the name, as it is kept
abbrev pub known : Meanings → ℕ → ℕ → Bool
known m file name = is_some (held m.own file name) || is_some (held m.imported file name)

-- The meanings of all names in all files are kept, which names a file has, and what each import takes.
pub record AreMeanings (files : List SourceFile) (m : Meanings) : Type 0 where
  pub names : (file name : ℕ) → known m file name ≡ is_known files file name
  pub meant : (file name : ℕ) → found m file name ≡ meaning files file name
  pub targets : (file import : ℕ) → taken m file import ≡ target files file import
