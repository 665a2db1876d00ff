use Rattle.std.specs.Prelude.{◌≡◌, ℕ, ◌≤◌, ◌<◌, List, [], length, Option, Some, None, Result, Ok, Err}
use Rattle.ato_outside.specs.declared.shelf.Got.{Got}
use Rattle.ato_outside.specs.declared.shelf.Got.TheVariants.{Whole, Missing, TooLong}
use Rattle.ato_outside.specs.declared.shelf.ShelfError.{ShelfError}

-- The answer, with the bytes that came with it, for a name at which the files hold this.
abbrev pub IsAnswer : Option (List ℕ) → ℕ → Result Got ShelfError → List ℕ → Type 0
IsAnswer held limit (Ok Whole) bytes = held ≡ Some bytes
IsAnswer held limit (Ok Missing) bytes = held ≡ None
IsAnswer held limit (Ok TooLong) bytes = (file : List ℕ) × (held ≡ Some file) × (limit < length file)
IsAnswer held limit (Err e) bytes = Unit {0}

-- After Whole there are at most as many bytes as the limit, after every other answer none.
abbrev pub Fits : ℕ → Result Got ShelfError → List ℕ → Type 0
Fits limit (Ok Whole) bytes = length bytes ≤ limit
Fits limit (Ok Missing) bytes = bytes ≡ []
Fits limit (Ok TooLong) bytes = bytes ≡ []
Fits limit (Err e) bytes = bytes ≡ []
