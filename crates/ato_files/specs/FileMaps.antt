-- Numbers of files by their names. Only private functions have clauses in these words.
use Rattle.std.specs.Prelude.{◌≡◌, ℕ, suc, List, [], ◌∷◌, Option, None, position}
use Rattle.std.specs.Option.{option_map}
use Rattle.std.specs.Map.{lookup}
use Rattle.std.specs.Str.{bytes_eq}
use Rattle.ato_files.specs.declared.program.SourceFile.{SourceFile}
use Rattle.ato_files.specs.declared.file_map.FileMap.{FileMap}

-- the number that is held for a text
abbrev pub number_in : FileMap → List ℕ → Option ℕ
number_in m text = lookup (λ key. bytes_eq text key.now) m.numbers.entries

-- the number of the first file of this name behind the library
abbrev pub number_behind : List SourceFile → List ℕ → Option ℕ
number_behind [] text = None
number_behind (library ∷ files) text = option_map suc (position (λ f. bytes_eq text f.name) files)

-- The map holds the number of each name of a file behind the library.
abbrev pub AreNumbers : List SourceFile → FileMap → Type 0
AreNumbers files m = (text : List ℕ) → number_in m text ≡ number_behind files text
