use Rattle.std.specs.Prelude.{◌≡◌, ℕ, ◌<◌, ◌≤◌, ◌⊎◌, Result, Ok, Err}
use Rattle.ato_base.specs.declared.memory.NoMemory.{NoMemory}
use Rattle.ato_outside.specs.Causes.{Rose}
use Rattle.ato_words.specs.declared.words.Task.{Task}
use Rattle.ato_words.specs.declared.words.Task.TheVariants as tasks
use Rattle.ato_build.specs.declared.answer.Answer.{Answer}
use Rattle.ato_build.specs.declared.status.Status.{Status}
use Rattle.ato_build.specs.declared.status.Status.TheVariants as answers

-- The answer has this status.
abbrev pub HasStatus : Status → Result Answer NoMemory → Type 0
HasStatus status (Ok answer) = answer.status ≡ status
HasStatus status (Err e) = ⊥

-- The shelf's count over a call: it never falls, it rose where a read fault is answered, and where it rose the answer is a
-- read fault or want of memory.
pub record CountsReads (before now : ℕ) (Failed NoMemory : Type 0) : Type 0 where
  pub later : before ≤ now
  pub rose : Failed → Rose before now
  pub kept : before < now → Failed ⊎ NoMemory

-- The run ended by a failure outside or for want of memory.
abbrev pub EndsOutside : Status → Type 0
EndsOutside status = (status ≡ answers.ReadFault) ⊎ (status ≡ answers.NoMemory) ⊎ (status ≡ answers.WriteFault)

-- A certificate was rejected, at some line.
abbrev pub IsRejected : Status → Type 0
IsRejected status = (line : ℕ) × (status ≡ answers.Rejected line)

-- A build ends so where all goes well.
abbrev pub IsEnd : Status → Type 0
IsEnd answers.Built = Unit {0}
IsEnd answers.Refuted = Unit {0}
IsEnd status = ⊥

-- A check ends so where all goes well.
abbrev pub IsVerdict : Status → Type 0
IsVerdict answers.Accepted = Unit {0}
IsVerdict (answers.Rejected line) = Unit {0}
IsVerdict status = ⊥

-- The task was done.
abbrev pub IsDone : Task → Status → Type 0
IsDone (tasks.Build build) status = IsEnd status
IsDone (tasks.Check check) status = IsVerdict status
