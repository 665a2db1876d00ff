-- What is fetched of the file of a name. Only private functions have clauses in these words.
use Rattle.std.specs.Prelude.{◌≡◌, ◌≤◌, ◌<◌, ◌⊎◌, ℕ, true, false, List, [], ◌∷◌, length, Option, Some, None, Result, Ok, Err, nat_lt}
use Rattle.std.specs.FinMap as map
use Rattle.ato_base.specs.declared.faults.Fault.{Fault}
use Rattle.ato_base.specs.declared.faults.FaultKind.TheVariants as kinds
use Rattle.ato_base.specs.declared.memory.NoMemory.{NoMemory}
use Rattle.ato_outside.specs.Files.{Files}
use Rattle.ato_outside.specs.Causes.{Rose}
use Rattle.ato_outside.specs.Replies.{Reply}
use Rattle.ato_outside.specs.declared.shelf.Got.TheVariants as got
use Rattle.ato_outside.specs.declared.shelf.ShelfError.TheVariants as errors
use Rattle.ato_words.specs.PlainNames.{is_plain}
use Rattle.ato_files.specs.declared.program.SourceFile.{SourceFile}
use Rattle.ato_files.specs.declared.fetching.Found.{Found}
use Rattle.ato_files.specs.declared.fetching.Found.TheVariants as found
use Rattle.ato_files.specs.declared.fetching.Fetched.{Fetched}
use Rattle.ato_files.specs.declared.fetching.Fetched.TheVariants as fetched
use Rattle.ato_files.specs.Loading.{most_bytes, file_fault}
use Rattle.ato_files.specs.Replies.{bare, whole}

-- This was found at a name under which this is held.
abbrev pub IsFound : Option (List ℕ) → Found → Type 0
IsFound held found.Failed = Unit {0}
IsFound held found.Missing = held ≡ None
IsFound held found.TooLong = (file : List ℕ) × (held ≡ Some file) × (nat_lt most_bytes (length file) ≡ true)
IsFound held (found.Whole bytes) = (held ≡ Some bytes) × (nat_lt most_bytes (length bytes) ≡ false)

-- A whole file is not too long.
abbrev pub HasRoom : Found → Type 0
HasRoom (found.Whole bytes) = nat_lt most_bytes (length bytes) ≡ false
HasRoom _ = Unit {0}

-- It is what the shelf holds at the name, where it tells its files.
abbrev pub IsFoundBy : Option Files → List ℕ → Found → Type 0
IsFoundBy None name found = HasRoom found
IsFoundBy (Some files) name found = IsFound (map.get files name) found

-- the reply of which this was found
abbrev pub found_reply : List ℕ → Result Found NoMemory → Reply
found_reply name (Ok found.Failed) = bare name (Err errors.Failed)
found_reply name (Ok found.Missing) = bare name (Ok got.Missing)
found_reply name (Ok found.TooLong) = bare name (Ok got.TooLong)
found_reply name (Ok (found.Whole bytes)) = whole name bytes
found_reply name (Err e) = bare name (Err errors.NoMemory)

-- The name has no file that can be loaded behind these files, with this fault, after these replies.
pub data NoFile (told : Option Files) (name : List ℕ) (files : List SourceFile) : Fault → List Reply → Type 0 where
  not_plain : is_plain name ≡ false → NoFile told name files (file_fault kinds.FileMissing name files) []
  missing : is_plain name ≡ true → IsFoundBy told name found.Missing → NoFile told name files (file_fault kinds.FileMissing name files) (bare name (Ok got.Missing) ∷ [])
  too_long : is_plain name ≡ true → IsFoundBy told name found.TooLong → NoFile told name files (file_fault kinds.FileTooLong name files) (bare name (Ok got.TooLong) ∷ [])

-- The replies where memory ran out: before the name was asked for, in that call, or behind it.
pub data NoRoom (told : Option Files) (name : List ℕ) : List Reply → Type 0 where
  not_asked : NoRoom told name []
  in_the_call : is_plain name ≡ true → NoRoom told name (bare name (Err errors.NoMemory) ∷ [])
  was_missing : is_plain name ≡ true → IsFoundBy told name found.Missing → NoRoom told name (bare name (Ok got.Missing) ∷ [])
  was_long : is_plain name ≡ true → IsFoundBy told name found.TooLong → NoRoom told name (bare name (Ok got.TooLong) ∷ [])

-- What is fetched at the name behind these files, after these replies.
abbrev pub IsFetched : Option Files → List ℕ → List SourceFile → Result Fetched NoMemory → List Reply → Type 0
IsFetched told name files (Ok fetched.Failed) replies = (is_plain name ≡ true) × (replies ≡ bare name (Err errors.Failed) ∷ [])
IsFetched told name files (Ok (fetched.Fault f)) replies = NoFile told name files f replies
IsFetched told name files (Ok (fetched.Whole bytes)) replies = (is_plain name ≡ true) × IsFoundBy told name (found.Whole bytes) × (replies ≡ whole name bytes ∷ [])
IsFetched told name files (Err e) replies = NoRoom told name replies

-- ---- counts

-- A count of misses never falls, it rose where the file of a plain name is missing, and otherwise only where memory ran out.
pub record CountsMisses (before now : ℕ) (Plain Missing Out : Type 0) : Type 0 where
  pub later : before ≤ now
  pub rose : Missing → Plain → Rose before now
  pub only : before < now → Missing ⊎ Out

-- the file of the name is missing
abbrev pub IsMissing : Result Fetched NoMemory → Type 0
IsMissing (Ok (fetched.Fault f)) = f.kind ≡ kinds.FileMissing
IsMissing _ = ⊥

-- memory ran out
abbrev pub IsOut : Result Fetched NoMemory → Type 0
IsOut (Ok f) = ⊥
IsOut (Err e) = Unit {0}
