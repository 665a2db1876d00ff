-- Which files a project has, and in which order.
use Rattle.std.specs.Prelude.{◌≡◌, ◌≤◌, suc, ℕ, List, [], ◌∷◌, ◌++◌, map, length, fold, slice_get, Option, Some, None}
use Rattle.std.specs.List.{flat_map, AllByRecursion}
use Rattle.ato_base.specs.NameTable.{with_name}
use Rattle.ato_ast.specs.declared.names.Quoted.{Quoted}
use Rattle.ato_ast.specs.declared.blocks.Head.{Head}
use Rattle.ato_ast.specs.declared.blocks.Head.TheVariants as head
use Rattle.ato_ast.specs.declared.blocks.Item.{Item}
use Rattle.ato_ast.specs.declared.blocks.Item.TheVariants as item
use Rattle.ato_files.specs.declared.program.SourceFile.{SourceFile}
use Rattle.ato_files.specs.Lists.{text_at, Among}

abbrev pub item_heads : Item → List Head
item_heads (item.Heads line) = line.parts
item_heads (item.Block block) = []

abbrev pub heads_of : SourceFile → List Head
heads_of file = flat_map item_heads file.tree.items

-- the string that names a file in a head, if there is one
abbrev pub head_mention : Head → List Quoted
head_mention (head.ImportFrom name from at) = from ∷ []
head_mention (head.From from names at) = from ∷ []
head_mention (head.Import names at) = []
head_mention (head.Docs text) = []
head_mention (head.Pass at) = []

-- the strings of a file's imports, in source order
abbrev pub mentions : SourceFile → List Quoted
mentions file = flat_map head_mention (heads_of file)

abbrev pub mentioned : SourceFile → List (List ℕ)
mentioned file = map (λ text. text_at file.bytes text.contents) (mentions file)

-- The names of files that are known after these files: the entry's, then what the files mention, each name at its first
-- mention.
abbrev pub known : List ℕ → List SourceFile → List (List ℕ)
known entry files = fold with_name (entry ∷ []) (flat_map mentioned files)

-- A chain of imports leads from the entry through the files to the name.
pub data Reached (entry : List ℕ) (files : List SourceFile) : List ℕ → Type 0 where
  at_entry : Reached entry files entry
  by_import : {name : List ℕ} (file : SourceFile) → Among file files → Reached entry files file.name → Among name (mentioned file) → Reached entry files name

abbrev pub name_of : SourceFile → List ℕ
name_of file = file.name

-- The files are all those of the project, in load order: chains of imports lead to them, and they stand in the order in
-- which they become known.
pub record AreFiles (entry : List ℕ) (files : List SourceFile) : Type 0 where
  pub in_order : map name_of files ≡ known entry files
  pub reached : AllByRecursion (Reached entry files) (map name_of files)

-- The name that is loaded after these files, if there is one.
abbrev pub next_name : List ℕ → List SourceFile → Option (List ℕ)
next_name entry files = slice_get (known entry files) (length files)

-- The files are the first ones of the project, in load order, and each is as it has to be after those before it.
pub data AreFirst (IsGood : List SourceFile → SourceFile → Type 0) (entry : List ℕ) : List SourceFile → Type 0 where
  no_file : AreFirst IsGood entry []
  next_file : {before : List SourceFile} {file : SourceFile} → AreFirst IsGood entry before → next_name entry before ≡ Some file.name → IsGood before file
      → AreFirst IsGood entry (before ++ file ∷ [])

-- Files that are loaded one after another, until there is no next name, are those of the project; and a chain of imports
-- leads to no other name.
pub record LoadsAll (IsGood : List SourceFile → SourceFile → Type 0) (entry : List ℕ) (files : List SourceFile) : Type 0 where
  pub all : AreFirst IsGood entry files → next_name entry files ≡ None → AreFiles entry files
  pub there : AreFiles entry files → {name : List ℕ} → Reached entry files name → Among name (map name_of files)

-- A chain of at most so many imports leads from the entry through the files to the name.
pub data Within (entry : List ℕ) (files : List SourceFile) : ℕ → List ℕ → Type 0 where
  at_start : {n : ℕ} → Within entry files n entry
  further : {n : ℕ} {name : List ℕ} (file : SourceFile) → Among file files → Within entry files n file.name → Among name (mentioned file) → Within entry files (suc n) name

-- A name that stands before another one is no farther from the entry.
abbrev pub NearerFirst : Type 0
NearerFirst = (entry : List ℕ) (files : List SourceFile) → AreFiles entry files → (n i j : ℕ) (x y : List ℕ)
    → slice_get (known entry files) i ≡ Some x → slice_get (known entry files) j ≡ Some y → i ≤ j → Within entry files n y → Within entry files n x
