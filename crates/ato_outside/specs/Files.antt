use Rattle.std.specs.Prelude.{ℕ, List, [], ◌∷◌, Option, Some, None, if◌then◌else◌}
use Rattle.std.specs.Ordering.{nat_cmp}
use Rattle.std.specs.Cmp.Lexicographic.{slice_cmp}
use Rattle.std.specs.Str.{bytes_eq}
use Rattle.std.specs.FinMap.{FinMap, code, from_entries}
use Rattle.std.specs.Coded.{Coded, coded_list, coded_ℕ}

-- files by the bytes of their names
abbrev pub Files : Type 0
Files = FinMap (slice_cmp nat_cmp) (List ℕ)

-- how files are told apart, as their names and bytes
abbrev pub files_code : Coded Files
files_code = code (coded_list coded_ℕ) (coded_list coded_ℕ)

-- the files that entries of names and bytes make: of several entries for one name the first counts
abbrev pub files_of : List (List ℕ × List ℕ) → Files
files_of entries = from_entries entries

-- the bytes of the first entry of a name
abbrev pub bytes_at : List (List ℕ × List ℕ) → List ℕ → Option (List ℕ)
bytes_at [] name = None
bytes_at (entry ∷ entries) name = if bytes_eq name entry.0 then Some entry.1 else bytes_at entries name
