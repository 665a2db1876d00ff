-- What names first mean in files. Only private functions have clauses in these words.
use Rattle.std.specs.Prelude.{◌≡◌, ℕ, Bool, ◌&&◌, ◌==◌, List, Option}
use Rattle.std.specs.Map.{lookup}
use Rattle.indexmap.specs.IndexMap.{get}
use Rattle.ato_files.specs.declared.name_map.NameMap.{NameMap}

-- the same name of the same file
abbrev pub same_key : ℕ × ℕ → ℕ × ℕ → Bool
same_key x y = (x.0 == y.0) && (x.1 == y.1)

-- what is held for a file and a name
abbrev pub held : NameMap → ℕ → ℕ → Option (Option ℕ)
held m file name = get same_key m.meant (file, name)

-- The map holds for each file and name the value of the first of the pairs with them.
abbrev pub AreFirst : List ((ℕ × ℕ) × Option ℕ) → NameMap → Type 0
AreFirst pairs m = (file name : ℕ) → held m file name ≡ lookup (same_key (file, name)) pairs
