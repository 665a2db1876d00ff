use Rattle.std.specs.Prelude.{◌≡◌, ◌≢◌, ◌<◌, ◌⊎◌, ℕ, List, length, take, Option, Result, Ok, Err, IfSome, refl}
use Rattle.std.specs.Path.{path_join}
use Rattle.std.specs.Coded.{Coded, code_by, coded×, coded_list, coded_ℕ}
use Rattle.std.specs.Io.KnownBytes.{Appends}
use Rattle.ato_outside.specs.declared.system.OpenError.{OpenError}
use Rattle.ato_outside.specs.declared.system.OpenError.TheVariants.{Missing}
use Rattle.ato_outside.specs.declared.shelf.Got.{Got}
use Rattle.ato_outside.specs.declared.shelf.Got.TheVariants as got
use Rattle.ato_outside.specs.declared.shelf.ShelfError.{ShelfError}
use Rattle.ato_outside.specs.declared.shelf.ShelfError.TheVariants as errors

-- what is told of a real folder as a shelf: the system that it asks, its path, how many calls failed, and how many missed
pub record FolderShelf (S : Type 0) : Type 0 where
  pub system : S
  pub folder : List ℕ
  pub faults : ℕ
  pub misses : ℕ

-- such a shelf is stored as the tuple of its parts
abbrev pub folder_shelf_code : {S : Type 0} → Coded S → Coded (FolderShelf S)
folder_shelf_code {S} of_system =
    code_by (S × (List ℕ × (ℕ × ℕ))) (coded× of_system (coded× (coded_list coded_ℕ) (coded× coded_ℕ coded_ℕ)))
    (λ s. (s.system, (s.folder, (s.faults, s.misses))))
    (λ p. record { system = p.0; folder = p.1.0; faults = p.1.1.0; misses = p.1.1.1 })
    (λ _. refl)

-- what is told of a real folder as a tray: the system that it asks, its path, and how many calls failed
pub record FolderTray (S : Type 0) : Type 0 where
  pub system : S
  pub folder : List ℕ
  pub faults : ℕ

-- such a tray is stored as the tuple of its parts
abbrev pub folder_tray_code : {S : Type 0} → Coded S → Coded (FolderTray S)
folder_tray_code {S} of_system =
    code_by (S × (List ℕ × ℕ)) (coded× of_system (coded× (coded_list coded_ℕ) coded_ℕ)) (λ t. (t.system, (t.folder, t.faults))) (λ p. record { system = p.0; folder = p.1.0; faults = p.1.1 }) (λ _. refl)

-- A file was opened at the path, and this holds of what it had left, where the file tells it. Nothing else was done.
abbrev pub ReadsFile : {S F : Type 0} → (S → List ℕ → Result F OpenError → S → Type 0) → (F → Option (List ℕ)) → S → List ℕ → S → (List ℕ → Type 0) → Type 0
ReadsFile {S} {F} opens remaining before path after Held = (file : F) × opens before path (Ok file) after × IfSome (remaining file) Held

-- What a read that failed did: it opened the path or was refused there, and the path was not missing.
abbrev pub StopsReading : {S F : Type 0} → (S → List ℕ → Result F OpenError → S → Type 0) → S → List ℕ → S → Type 0
StopsReading {S} {F} opens before path after = (answer : Result F OpenError) × opens before path answer after × (answer ≢ Err Missing)

-- What a read at a path did, by its answer. Whole and too long are answers about the file that was opened there: the bytes are its own, or it has
-- too many. Missing is what the system answered. A read without memory opened the path, or asked for nothing.
abbrev pub ReadsPath : {S F : Type 0} → (S → List ℕ → Result F OpenError → S → Type 0) → (F → Option (List ℕ)) → S → List ℕ → ℕ → Result Got ShelfError → List ℕ → S → Type 0
ReadsPath opens remaining before path limit (Ok got.Whole) bytes after = ReadsFile opens remaining before path after (λ rest. bytes ≡ rest)
ReadsPath opens remaining before path limit (Ok got.TooLong) bytes after = ReadsFile opens remaining before path after (λ rest. limit < length rest)
ReadsPath opens remaining before path limit (Ok got.Missing) bytes after = opens before path (Err Missing) after
ReadsPath opens remaining before path limit (Err errors.Failed) bytes after = StopsReading opens before path after
ReadsPath {S} {F} opens remaining before path limit (Err errors.NoMemory) bytes after = (after ≡ before) ⊎ ((file : F) × opens before path (Ok file) after)

-- A call on a real folder as a shelf: it reads at the path of the name.
pub record GetsFromFolder {S F : Type 0} (opens : S → List ℕ → Result F OpenError → S → Type 0) (remaining : F → Option (List ℕ)) (old : FolderShelf S) (name : List ℕ) (limit : ℕ)
    (answer : Result Got ShelfError) (bytes : List ℕ) (new : FolderShelf S) : Type 0 where
  pub folder : new.folder ≡ old.folder
  pub read : ReadsPath opens remaining old.system (path_join old.folder name) limit answer bytes new.system

-- A file was created at the path, took the bytes after what it held, and was closed. Nothing else was done.
abbrev pub WritesFile : {S F : Type 0} → (S → List ℕ → Result F OpenError → S → Type 0) → (S → F → S → Type 0) → (F → Option (List ℕ)) → S → List ℕ → List ℕ → S → Type 0
WritesFile {S} {F} creates closes contents before path bytes after =
    (fresh full : F) × (between : S) × creates before path (Ok fresh) between × Appends (contents fresh) (contents full) bytes × closes between full after

-- What a write that failed did: its file took only the first of the bytes and was closed, or the path was refused.
abbrev pub StopsWriting : {S F : Type 0} → (S → List ℕ → Result F OpenError → S → Type 0) → (S → F → S → Type 0) → (F → Option (List ℕ)) → S → List ℕ → List ℕ → S → Type 0
StopsWriting {S} {F} creates closes contents before path bytes after =
    ((n : ℕ) × WritesFile creates closes contents before path (take n bytes) after) ⊎ ((why : OpenError) × creates before path (Err why) after)
