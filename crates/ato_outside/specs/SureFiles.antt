use Rattle.std.specs.Prelude.{◌≡◌, ℕ, List, Result, Ok, Err, refl}
use Rattle.std.specs.FinMap as map
use Rattle.std.specs.Coded.{Coded, code_by, coded×, coded_ℕ}
use Rattle.ato_outside.specs.Files.{Files, files_code}
use Rattle.ato_outside.specs.Causes.{next_count}
use Rattle.ato_outside.specs.Shelf.{IsAnswer, Fits}
use Rattle.ato_outside.specs.declared.shelf.Got.{Got}
use Rattle.ato_outside.specs.declared.shelf.Got.TheVariants.{Whole, Missing, TooLong}
use Rattle.ato_outside.specs.declared.shelf.ShelfError.{ShelfError}
use Rattle.ato_outside.specs.declared.shelf.ShelfError.TheVariants.{Failed, NoMemory}

-- a shelf in memory that never fails: its files, and how many calls missed
pub record SureFiles : Type 0 where
  pub files : Files
  pub misses : ℕ

-- such a shelf is stored as the pair of its parts
abbrev pub sure_code : Coded SureFiles
sure_code =
    code_by (Files × ℕ) (coded× files_code coded_ℕ) (λ s. (s.files, s.misses)) (λ p. record { files = p.0; misses = p.1 }) (λ _. refl)

-- What a call makes of such a shelf. It never fails.
abbrev pub GetsSurely : SureFiles → SureFiles → Result Got ShelfError → Type 0
GetsSurely old new (Ok Whole) = new ≡ old
GetsSurely old new (Ok Missing) = new ≡ record old { misses = next_count old.misses }
GetsSurely old new (Ok TooLong) = new ≡ old
GetsSurely old new (Err Failed) = ⊥
GetsSurely old new (Err NoMemory) = new ≡ old

-- A call on such a shelf: the answer is that of its files, and the shelf is as the call leaves it.
pub record GetsFromSureFiles (old : SureFiles) (name : List ℕ) (limit : ℕ) (answer : Result Got ShelfError) (bytes : List ℕ) (new : SureFiles) : Type 0 where
  pub told : IsAnswer (map.get old.files name) limit answer bytes
  pub room : Fits limit answer bytes
  pub sure : GetsSurely old new answer
