use Rattle.std.specs.Prelude.{◌≡◌, ℕ, Bool, true, false, List, Result, Ok, Err, refl}
use Rattle.std.specs.FinMap as map
use Rattle.std.specs.Coded.{Coded, code_by, coded×, coded_list, coded_ℕ}
use Rattle.ato_outside.specs.Files.{Files, files_code}
use Rattle.ato_outside.specs.Causes.{next_count}
use Rattle.ato_outside.specs.Numbered.{is_listed}
use Rattle.ato_outside.specs.Shelf.{IsAnswer, Fits}
use Rattle.ato_outside.specs.declared.shelf.Got.{Got}
use Rattle.ato_outside.specs.declared.shelf.Got.TheVariants.{Whole, Missing, TooLong}
use Rattle.ato_outside.specs.declared.shelf.ShelfError.{ShelfError}
use Rattle.ato_outside.specs.declared.shelf.ShelfError.TheVariants.{Failed, NoMemory}

-- A shelf in memory: its files, the numbers of the calls that fail, the calls so far, and how many
-- of them failed or missed.
pub record MemoryShelf : Type 0 where
  pub files : Files
  pub fail : List ℕ
  pub calls : ℕ
  pub faults : ℕ
  pub misses : ℕ

-- a shelf in memory is stored as the tuple of its parts
abbrev pub shelf_code : Coded MemoryShelf
shelf_code =
    code_by (Files × (List ℕ × (ℕ × (ℕ × ℕ)))) (coded× files_code (coded× (coded_list coded_ℕ) (coded× coded_ℕ (coded× coded_ℕ coded_ℕ))))
    (λ s. (s.files, (s.fail, (s.calls, (s.faults, s.misses)))))
    (λ p. record { files = p.0; fail = p.1.0; calls = p.1.1.0; faults = p.1.1.1.0; misses = p.1.1.1.1 })
    (λ _. refl)

-- whether the next call is to fail
abbrev pub is_failing : MemoryShelf → Bool
is_failing shelf = is_listed shelf.fail (next_count shelf.calls)

-- a shelf in memory after one more call
abbrev pub called : MemoryShelf → MemoryShelf
called shelf = record shelf { calls = next_count shelf.calls }

-- What a call makes of a shelf in memory, by whether it is to fail.
abbrev pub GetsByNumber : Bool → MemoryShelf → MemoryShelf → Result Got ShelfError → Type 0
GetsByNumber true old new (Ok got) = ⊥
GetsByNumber true old new (Err Failed) = new ≡ record (called old) { faults = next_count old.faults }
GetsByNumber true old new (Err NoMemory) = ⊥
GetsByNumber false old new (Ok Whole) = new ≡ called old
GetsByNumber false old new (Ok Missing) = new ≡ record (called old) { misses = next_count old.misses }
GetsByNumber false old new (Ok TooLong) = new ≡ called old
GetsByNumber false old new (Err Failed) = ⊥
GetsByNumber false old new (Err NoMemory) = new ≡ called old

-- A call on a shelf in memory: the answer is that of its files, and the shelf is as the call leaves it.
pub record GetsInMemory (old : MemoryShelf) (name : List ℕ) (limit : ℕ) (answer : Result Got ShelfError) (bytes : List ℕ) (new : MemoryShelf) : Type 0 where
  pub told : IsAnswer (map.get old.files name) limit answer bytes
  pub room : Fits limit answer bytes
  pub numbered : GetsByNumber (is_failing old) old new answer
