-- What the entry file gives: the block that is built, or its first fault.
use Rattle.std.specs.Prelude.{◌≡◌, ℕ, ◌^◌, List, [], Option, Some, None, ◌⊎◌}
use Rattle.ato_base.specs.declared.faults.Fault.{Fault}
use Rattle.ato_base.specs.declared.faults.FaultKind.{FaultKind}
use Rattle.ato_base.specs.declared.faults.FaultKind.TheVariants as kinds
use Rattle.ato_base.specs.declared.faults.Refusal.{Refusal}
use Rattle.ato_base.specs.declared.faults.Refusal.TheVariants as refusals
use Rattle.ato_base.specs.declared.places.FileId.{FileId}
use Rattle.ato_base.specs.declared.places.Place.TheVariants as places
use Rattle.ato_first.specs.FirstForm.{IsFile, IsBad}
use Rattle.ato_first.specs.FirstTokens.{syntax_fault}
use Rattle.ato_first.specs.declared.first_form.Block.{Block}
use Rattle.ato_first.specs.FirstPoints.{AreKnown, IsUnknownAt}
use Rattle.ato_first.specs.FirstParts.{HasRanges, IsEmptyAt}
use Rattle.ato_build.specs.Found.{Found, Missing, TooLong, Whole}
use Rattle.ato_build.specs.declared.project.Project.{Project}

-- The most bytes that a source file may have.
abbrev pub source_limit : ℕ
source_limit = 2 ^ 18

-- the number of the entry file
abbrev pub entry_file : FileId
entry_file = record { 0 = 1 }

-- a fault at a word
abbrev pub word_fault : FaultKind → ℕ → Fault
word_fault kind word = record { kind = kind; at = places.Word word; other = None; path = [] }

-- a fault in a line of the entry file, at the line's first byte
abbrev pub line_fault : FaultKind → ℕ → Fault
line_fault kind at = record { kind = kind; at = places.Source (record { file = entry_file; start = at; end = at }); other = None; path = [] }

-- The file is a block of the name.
abbrev pub IsNamed : Option Block → List ℕ → Type 0
IsNamed None name = ⊥
IsNamed (Some block) name = block.name ≡ name

-- The source is a file of the form that has no block of the name.
abbrev pub LacksBlock : List ℕ → List ℕ → Type 0
LacksBlock source name = (file : Option Block) × IsFile source file × (IsNamed file name → ⊥)

-- The first fault in the lines of a block: a name that is not known, or else a range whose low end is above its high end.
abbrev pub IsLineFault : Block → Fault → Type 0
IsLineFault block f =
    ((at : ℕ) × IsUnknownAt block at × (f ≡ line_fault kinds.NoSuchMember at))
    ⊎ (AreKnown block × ((at : ℕ) × IsEmptyAt block at × (f ≡ line_fault kinds.EmptyRange at)))

-- The entry gives this block: it has the name, each name in its lines is known, and each range has a value.
abbrev pub GivesBlock : Project → Found → Block → Type 0
GivesBlock project Missing block = ⊥
GivesBlock project TooLong block = ⊥
GivesBlock project (Whole source) block = IsFile source (Some block) × (block.name ≡ project.block) × AreKnown block × HasRanges block

-- The fault stands in the entry: the file is missing (F8), too long (F9), not of the form (F6, at the first byte of the first
-- line that is not), has no block of the name (F11), mentions a name that is not known (F15), or asserts a range without a
-- value (F29).
abbrev pub StandsInEntry : Project → Found → Fault → Type 0
StandsInEntry project Missing f = f ≡ word_fault kinds.FileMissing 1
StandsInEntry project TooLong f = f ≡ word_fault kinds.FileTooLong 1
StandsInEntry project (Whole source) f =
    ((at : ℕ) × IsBad source at × (f ≡ syntax_fault entry_file at))
    ⊎ (LacksBlock source project.block × (f ≡ word_fault kinds.NameUnknown 1))
    ⊎ ((block : Block) × IsFile source (Some block) × (block.name ≡ project.block) × IsLineFault block f)

-- Why the entry gives no block: a fault that stands, or want of memory.
abbrev pub IsEntryRefusal : Project → Found → Refusal → Type 0
IsEntryRefusal project entry (refusals.Fault f) = StandsInEntry project entry f
IsEntryRefusal project entry refusals.NoMemory = Unit {0}
