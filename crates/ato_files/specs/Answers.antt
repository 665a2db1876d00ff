-- What `load` answers.
use Rattle.std.specs.Prelude.{◌≡◌, ◌≤◌, ◌<◌, ◌⊎◌, true, false, ℕ, List, [], ◌∷◌, ◌++◌, Option, Some, None, Result, Ok, Err}
use Rattle.std.specs.FinMap as map
use Rattle.ato_base.specs.declared.faults.FaultKind.TheVariants as kinds
use Rattle.ato_outside.specs.Causes.{Rose}
use Rattle.ato_outside.specs.Files.{Files}
use Rattle.ato_outside.specs.Replies.{Reply}
use Rattle.ato_outside.specs.declared.shelf.Got.{Got}
use Rattle.ato_outside.specs.declared.shelf.ShelfError.{ShelfError}
use Rattle.ato_outside.specs.declared.shelf.ShelfError.TheVariants as errors
use Rattle.ato_words.specs.PlainNames.{is_plain}
use Rattle.ato_files.specs.declared.program.LoadFault.{LoadFault}
use Rattle.ato_files.specs.declared.program.LoadFault.TheVariants as answers
use Rattle.ato_files.specs.declared.program.Program.{Program}
use Rattle.ato_files.specs.Files.{next_name}
use Rattle.ato_files.specs.Loading.{Held, Loaded}
use Rattle.ato_files.specs.Programs.{Stage, Started, Loading, Named, Failure, IsReached, Stands}
use Rattle.ato_files.specs.Replies.{bare, replies_of, next_replies, ForReplies}

-- what the shelf holds under each name, where it tells its files
abbrev pub held_in : Files → Held
held_in files name = map.get files name

-- The shelf holds this, as far as it tells its files.
abbrev pub Holds : Option Files → Held → Type 0
Holds None held = Unit {0}
Holds (Some files) held = held ≡ held_in files

-- It is so for what the shelf holds; where the shelf tells nothing, for some files that it may hold.
pub record ForHeld (told : Option Files) (Is : Held → Type 0) : Type 0 where
  pub held : Held
  pub holds : Holds told held
  pub is : Is held

-- ---- refusals, with the replies of the shelf until then

module _ (held : Held) (entry : List ℕ) where
  -- the replies where loading ends at a stage: those that gave the files behind the library, and then those for the next name
  abbrev pub replies_at : Stage → List Reply
  replies_at Started = []
  replies_at (Loading l) = replies_of l.files ++ next_replies held (next_name entry l.files)
  replies_at (Named l) = replies_of l.files

  -- The failure stands, and these are the replies until it is found.
  pub record IsFailure (failure : Failure) (replies : List Reply) : Type 0 where
    pub stands : Stands held entry failure
    pub replies_are : replies ≡ replies_at stands.stage

  -- The file of the name is asked for next behind some files that are loaded without a fault, and that call fails.
  pub record IsUnread (name : List ℕ) (replies : List Reply) : Type 0 where
    pub loaded : Loaded
    pub reached : IsReached held entry (Loading loaded)
    pub next : next_name entry loaded.files ≡ Some name
    pub plain : is_plain name ≡ true
    pub replies_are : replies ≡ replies_of loaded.files ++ bare name (Err errors.Failed) ∷ []

  -- The replies where memory runs out behind some files: the next name was not asked for yet, or there was no memory in the call
  -- for it, or it was answered.
  pub data AreHalted (l : Loaded) : List Reply → Type 0 where
    before_call : AreHalted l []
    in_call : {name : List ℕ} → next_name entry l.files ≡ Some name → is_plain name ≡ true → AreHalted l (bare name (Err errors.NoMemory) ∷ [])
    behind_call : AreHalted l (next_replies held (next_name entry l.files))

  -- Memory runs out behind some files that are loaded without a fault.
  pub record IsHalted (replies : List Reply) : Type 0 where
    pub loaded : Loaded
    pub reached : IsReached held entry (Loading loaded)
    pub more : List Reply
    pub halted : AreHalted loaded more
    pub replies_are : replies ≡ replies_of loaded.files ++ more

  -- The next name behind some files that are loaded without a fault is not plain, and is not asked for.
  pub record IsUnplain (replies : List Reply) : Type 0 where
    pub loaded : Loaded
    pub reached : IsReached held entry (Loading loaded)
    pub name : List ℕ
    pub next : next_name entry loaded.files ≡ Some name
    pub unplain : is_plain name ≡ false
    pub replies_are : replies ≡ replies_of loaded.files

-- Why there is no program: the fault that stands, a file that was asked for and could not be read, or want of memory.
abbrev pub IsRefused : Option Files → List ℕ → LoadFault → List Reply → Type 0
IsRefused told entry (answers.Fault f sources) replies = ForHeld told (λ held. IsFailure held entry (record { fault = f; sources = sources }) replies)
IsRefused told entry (answers.Read name) replies = ForHeld told (λ held. IsUnread held entry name replies)
IsRefused told entry answers.NoMemory replies = ForHeld told (λ held. IsHalted held entry replies)

-- ---- kinds of answers

-- it is an error, and of this kind
abbrev pub IsErrWith : {A E : Type 0} → (E → Type 0) → Result A E → Type 0
IsErrWith Is (Ok a) = ⊥
IsErrWith Is (Err e) = Is e

-- a file could not be read
abbrev pub IsReadFault : LoadFault → Type 0
IsReadFault (answers.Read name) = Unit {0}
IsReadFault _ = ⊥

-- a file is missing
abbrev pub IsMissingFault : LoadFault → Type 0
IsMissingFault (answers.Fault f sources) = f.kind ≡ kinds.FileMissing
IsMissingFault _ = ⊥

-- memory ran out
abbrev pub IsOutFault : LoadFault → Type 0
IsOutFault answers.NoMemory = Unit {0}
IsOutFault _ = ⊥

-- ---- counts

-- A count of misses never falls, it rose where a file is missing unless its name is not plain, and otherwise only where memory ran out.
pub record CountsMissing (before now : ℕ) (Unplain Missing Out : Type 0) : Type 0 where
  pub later : before ≤ now
  pub rose : Missing → Rose before now ⊎ Unplain
  pub only : before < now → Missing ⊎ Out

-- The file is missing whose name is not plain, for what the shelf holds and replied.
abbrev pub IsUnplainFor : {S : Type 0} → (S → List ℕ → ℕ → Result Got ShelfError → List ℕ → S → Type 0) → Option Files → S → S → List ℕ → Type 0
IsUnplainFor gets told old new entry = ForReplies gets old new (λ replies. ForHeld told (λ held. IsUnplain held entry replies))

-- ---- the other direction

-- The answer is this program, unless a read fails or memory runs out.
abbrev pub IsThisProgram : Program → Result Program LoadFault → Type 0
IsThisProgram p (Ok q) = q ≡ p
IsThisProgram p (Err e) = IsReadFault e ⊎ IsOutFault e

-- The answer is this failure, unless a read fails or memory runs out.
abbrev pub IsThisFailure : Failure → Result Program LoadFault → Type 0
IsThisFailure failure (Ok p) = ⊥
IsThisFailure failure (Err (answers.Fault f sources)) = failure ≡ record { fault = f; sources = sources }
IsThisFailure failure (Err e) = Unit {0}
