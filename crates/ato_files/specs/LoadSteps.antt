-- Loading files one by one, in code. Only private functions have clauses in these words.
use Rattle.std.specs.Prelude.{◌≡◌, ℕ, true, false, List, [], ◌∷◌, ◌++◌, length, nat_lt, Option, Some, None, Result, Err}
use Rattle.ato_base.specs.declared.faults.Fault.{Fault}
use Rattle.ato_base.specs.declared.faults.FaultKind.TheVariants as kinds
use Rattle.ato_base.specs.declared.places.FileId.{FileId}
use Rattle.ato_ast.specs.declared.blocks.File.{File}
use Rattle.ato_outside.specs.Files.{Files}
use Rattle.ato_outside.specs.Replies.{Reply, Asks}
use Rattle.ato_outside.specs.declared.shelf.Got.{Got}
use Rattle.ato_outside.specs.declared.shelf.ShelfError.{ShelfError}
use Rattle.ato_outside.specs.declared.shelf.ShelfError.TheVariants as errors
use Rattle.ato_words.specs.PlainNames.{is_plain}
use Rattle.ato_files.specs.declared.program.Source.{Source}
use Rattle.ato_files.specs.declared.program.SourceFile.{SourceFile}
use Rattle.ato_files.specs.declared.walking.Stop.{Stop}
use Rattle.ato_files.specs.declared.walking.Stop.TheVariants as stops
use Rattle.ato_files.specs.declared.walking.Walk.{Walk}
use Rattle.ato_files.specs.declared.loading.Loading as code
use Rattle.ato_files.specs.Answers.{ForHeld, AreHalted}
use Rattle.ato_files.specs.Files.{known, next_name}
use Rattle.ato_files.specs.Loading.{Held, Loaded, all_files, most_bytes, most_files, IsStart, FileFault, readable}
use Rattle.ato_files.specs.Programs.{Loading, IsReached}
use Rattle.ato_files.specs.Replies.{bare, reply_of, replies_of, next_replies}
use Rattle.ato_files.specs.Walks.{started, HasNext, HasNoNext}

-- ---- adding a file

-- the number of the next file
abbrev pub next_number : Walk → FileId
next_number walk = record { 0 = length walk.files }

-- The file of this name and of these bytes was added.
pub record Adds (name bytes : List ℕ) (old new : Walk) : Type 0 where
  pub tree : File
  pub next : HasNext bytes (next_number old) old.names new.names old.known new.known tree
  pub files : new.files ≡ old.files ++ record { name = name; bytes = bytes; tree = tree } ∷ []

-- Why the file was not added: its first fault, or want of memory.
abbrev pub IsNotAdded : List ℕ → List ℕ → Walk → Stop → Type 0
IsNotAdded name bytes walk (stops.Fault f None) = ⊥
IsNotAdded name bytes walk (stops.Fault f (Some source)) = (source ≡ record { name = name; bytes = bytes }) × HasNoNext bytes (next_number walk) walk.names walk.known f
IsNotAdded name bytes walk (stops.Read other) = ⊥
IsNotAdded name bytes walk stops.NoMemory = Unit {0}

-- One more file is loaded, which the shelf gave in one call.
pub record LoadsOne {S : Type 0} (gets : S → List ℕ → ℕ → Result Got ShelfError → List ℕ → S → Type 0) (old new : S) (before after : List SourceFile) : Type 0 where
  pub file : SourceFile
  pub files_are : after ≡ before ++ file ∷ []
  pub asks : Asks gets most_bytes old (reply_of file ∷ []) new

-- ---- how far loading has come

-- The library is loaded, and the entry's name is known.
pub record IsBegun (entry : List ℕ) (walk : Walk) : Type 0 where
  pub library : SourceFile
  pub files_are : walk.files ≡ library ∷ []
  pub start : IsStart (started walk.names library)
  pub known_are : walk.known ≡ entry ∷ []

-- Loading has come so far.
pub record IsWalk (told : Option Files) (entry : List ℕ) (walk : Walk) (l : Loaded) : Type 0 where
  pub names_are : l.names ≡ walk.names
  pub files_are : all_files l ≡ walk.files
  pub known_are : known entry l.files ≡ walk.known
  pub few : nat_lt most_files (length walk.known) ≡ false
  pub reached : ForHeld told (λ held. IsReached held entry (Loading l))

abbrev pub HasWalk : Option Files → List ℕ → Walk → Type 0
HasWalk told entry walk = (l : Loaded) × IsWalk told entry walk l

-- All files are loaded.
abbrev pub IsDone : Option Files → List ℕ → Walk → Type 0
IsDone told entry walk = (l : Loaded) × IsWalk told entry walk l × (next_name entry l.files ≡ None)

-- ---- why loading stops

-- what was read of a file
abbrev pub as_source : SourceFile → Source
as_source file = record { name = file.name; bytes = file.bytes }

-- what was read of one more, if it was
abbrev pub read_too : Option Source → List Source
read_too None = []
read_too (Some source) = source ∷ []

-- The next file has the fault, and this is what was read of it, with these replies.
pub record FaultBehind (held : Held) (entry : List ℕ) (l : Loaded) (f : Fault) (read : Option Source) (replies : List Reply) : Type 0 where
  pub reached : IsReached held entry (Loading l)
  pub fault : FileFault held entry l f
  pub source : readable held entry (next_name entry l.files) ≡ read_too read
  pub replies_are : replies ≡ next_replies held (next_name entry l.files)

-- The call for the next file failed.
pub record UnreadBehind (held : Held) (entry : List ℕ) (l : Loaded) (name : List ℕ) (replies : List Reply) : Type 0 where
  pub reached : IsReached held entry (Loading l)
  pub next : next_name entry l.files ≡ Some name
  pub plain : is_plain name ≡ true
  pub replies_are : replies ≡ bare name (Err errors.Failed) ∷ []

-- Memory ran out.
pub record HaltedBehind (held : Held) (entry : List ℕ) (l : Loaded) (replies : List Reply) : Type 0 where
  pub reached : IsReached held entry (Loading l)
  pub halted : AreHalted held entry l replies

-- Why loading stops behind some files, after these replies for the next one.
abbrev pub StopsBehind : Option Files → List ℕ → Loaded → Stop → List Reply → Type 0
StopsBehind told entry l (stops.Fault f read) replies = ForHeld told (λ held. FaultBehind held entry l f read replies)
StopsBehind told entry l (stops.Read name) replies = ForHeld told (λ held. UnreadBehind held entry l name replies)
StopsBehind told entry l stops.NoMemory replies = ForHeld told (λ held. HaltedBehind held entry l replies)

-- Loading stops, and these are the files that are loaded then and the replies.
pub record StopsWith (told : Option Files) (entry : List ℕ) (files : List SourceFile) (stop : Stop) (replies : List Reply) : Type 0 where
  pub loaded : Loaded
  pub files_are : all_files loaded ≡ files
  pub more : List Reply
  pub why : StopsBehind told entry loaded stop more
  pub replies_are : replies ≡ replies_of loaded.files ++ more

-- ---- what is loaded

-- All files of the project are loaded.
pub record IsLoading (held : Held) (entry : List ℕ) (r : code.Loading) : Type 0 where
  pub loaded : Loaded
  pub reached : IsReached held entry (Loading loaded)
  pub last : next_name entry loaded.files ≡ None
  pub names_are : loaded.names ≡ r.names
  pub files_are : all_files loaded ≡ r.files

-- ---- kinds of stops

-- a file could not be read
abbrev pub IsReadStop : Stop → Type 0
IsReadStop (stops.Read name) = Unit {0}
IsReadStop _ = ⊥

-- a file is missing
abbrev pub IsMissingStop : Stop → Type 0
IsMissingStop (stops.Fault f read) = f.kind ≡ kinds.FileMissing
IsMissingStop _ = ⊥

-- memory ran out
abbrev pub IsOutStop : Stop → Type 0
IsOutStop stops.NoMemory = Unit {0}
IsOutStop _ = ⊥
