-- What stands at the name of a file.
use Rattle.std.specs.Prelude.{◌≡◌, ℕ, nat_le, if◌then◌else◌, List, [], length, Option, Some, None, IfSome}
use Rattle.std.specs.FinMap.{get}
use Rattle.ato_outside.specs.Files.{Files}

-- Nothing, a file beyond its limit, or a file.
pub data Found : Type 0 where
  Missing : Found
  TooLong : Found
  Whole : List ℕ → Found

-- what the bytes at a name are, where there are any, for a file of at most so many bytes
abbrev pub found_of : ℕ → Option (List ℕ) → Found
found_of limit None = Missing
found_of limit (Some bytes) = if nat_le (length bytes) limit then Whole bytes else TooLong

-- The files have this at the name, where they are told.
abbrev pub HasFile : Option Files → ℕ → List ℕ → Found → Type 0
HasFile held limit name found = IfSome held (λ files. found_of limit (get files name) ≡ found)

-- the bytes of a file, which are read only where it is whole
abbrev pub bytes_of : Found → List ℕ
bytes_of Missing = []
bytes_of TooLong = []
bytes_of (Whole bytes) = bytes
