-- What `run` promises. The words are the command line, `held` the files that the shelf tells, `old` and `new`
-- the tray's files before and after, `before` and `now` the sink's bytes before and after.
use Rattle.std.specs.Prelude.{◌≡◌, ◌⊎◌, ℕ, List, Option, Some, None}
use Rattle.ato_base.specs.declared.faults.Fault.{Fault}
use Rattle.ato_outside.specs.Files.{Files}
use Rattle.ato_outside.specs.declared.tray.TrayError.TheVariants as tray_errors
use Rattle.ato_build.specs.Boards.{Board}
use Rattle.ato_build.specs.Decisions.{IsDecision}
use Rattle.ato_build.specs.Input.{Input, HasInput}
use Rattle.ato_build.specs.InputStages.{Stage, next_file, IsReached, Stands, GivesBoard, GivesCertificate}
use Rattle.ato_build.specs.Judgements.{IsJudgement}
use Rattle.ato_build.specs.Outputs.{PutsInOrder}
use Rattle.ato_build.specs.Printing.{Appends, AppendsPrefix}
use Rattle.ato_build.specs.Projects.{options_of}
use Rattle.ato_build.specs.Texts.{fault_line, read_fault_text, write_fault_text, memory_text, usage_text}
use Rattle.ato_words.specs.Words.{IsBuild, IsCheck, IsJob, IsNoJob}
use Rattle.ato_build.specs.declared.outputs.Output.{Output}
use Rattle.ato_build.specs.declared.outputs.Stop.{Stop}
use Rattle.ato_words.specs.declared.words.Build.{Build}
use Rattle.ato_words.specs.declared.words.Check.{Check}
use Rattle.ato_words.specs.declared.words.Task.{Task}
use Rattle.ato_words.specs.declared.words.Task.TheVariants as tasks
use Rattle.ato_build.specs.declared.status.Status.{Status}
use Rattle.ato_build.specs.declared.status.Status.TheVariants as answers

-- The words are a build whose input gives a board, and this is what it decides: its status, the files that it puts, and the text of
-- its summary.
pub record Decides (words : List (List ℕ)) (held : Option Files) (status : Status) (outputs : List Output) (summary : List ℕ) : Type 0 where
  pub build : Build
  pub job : IsBuild words build
  pub input : Input
  pub read : HasInput held (tasks.Build build) input
  pub board : Board
  pub gives : GivesBoard (tasks.Build build) input board
  pub decision : IsDecision (options_of build) board status outputs summary

-- The decided files are put, all of them or those before the one at which the tray stopped.
pub record PutsDecided (words : List (List ℕ)) (held old new : Option Files) (status : Status) (summary : List ℕ) (stop : Option Stop) : Type 0 where
  pub outputs : List Output
  pub decides : Decides words held status outputs summary
  pub puts : PutsInOrder old new outputs stop

-- The words are a check whose input gives a board and the bytes of a certificate, and this is what it finds of them: its status, and
-- the text.
pub record Judges (words : List (List ℕ)) (held : Option Files) (status : Status) (text : List ℕ) : Type 0 where
  pub check : Check
  pub job : IsCheck words check
  pub input : Input
  pub read : HasInput held (tasks.Check check) input
  pub board : Board
  pub bytes : List ℕ
  pub gives : GivesCertificate check input board bytes
  pub judgement : IsJudgement board bytes status text

-- A certificate is checked, and nothing is put.
abbrev pub IsChecked : List (List ℕ) → Option Files → Option Files → Option Files → Status → List ℕ → Type 0
IsChecked words held old new status text = Judges words held status text × (new ≡ old)

-- The fault stands in the input, nothing is put, and the text is the fault's line.
pub record IsFaulted (words : List (List ℕ)) (held old new : Option Files) (f : Fault) (text : List ℕ) : Type 0 where
  pub task : Task
  pub job : IsJob words task
  pub input : Input
  pub read : HasInput held task input
  pub stands : Stands task input f
  pub nothing_put : new ≡ old
  pub text_is : text ≡ fault_line task input f

-- A file that a stage reads was not read, nothing is put, and the text names the file. No fault stands before it.
pub record IsUnread (words : List (List ℕ)) (held old new : Option Files) (text : List ℕ) : Type 0 where
  pub task : Task
  pub job : IsJob words task
  pub input : Input
  pub read : HasInput held task input
  pub stage : Stage
  pub reached : IsReached task input stage
  pub file : List ℕ
  pub reads : next_file task stage ≡ Some file
  pub nothing_put : new ≡ old
  pub text_is : text ≡ read_fault_text file

-- A decided file was not put: those before it are whole, of it a prefix is put, and the text names it.
abbrev pub IsUnwritten : List (List ℕ) → Option Files → Option Files → Option Files → List ℕ → Type 0
IsUnwritten words held old new text =
    (status : Status) × (summary name : List ℕ) × PutsDecided words held old new status summary (Some (record { name = name; error = tray_errors.Failed }))
    × (text ≡ write_fault_text name)

-- The words are no job, nothing is put, and the text is the usage.
abbrev pub IsUsage : List (List ℕ) → Option Files → Option Files → List ℕ → Type 0
IsUsage words old new text = IsNoJob words × (new ≡ old) × (text ≡ usage_text)

-- Memory ran out, and the text says so. Nothing is put, or the decided files before one for which the tray had no memory, whole.
abbrev pub IsOutOfMemory : List (List ℕ) → Option Files → Option Files → Option Files → List ℕ → Type 0
IsOutOfMemory words held old new text =
    ((new ≡ old) ⊎ ((status : Status) × (summary name : List ℕ) × PutsDecided words held old new status summary (Some (record { name = name; error = tray_errors.NoMemory }))))
    × (text ≡ memory_text)

-- What stands in the tray and which text is to be printed, by status.
abbrev pub Means : List (List ℕ) → Option Files → Option Files → Option Files → Status → List ℕ → Type 0
Means words held old new answers.Built text = PutsDecided words held old new answers.Built text None
Means words held old new answers.Accepted text = IsChecked words held old new answers.Accepted text
Means words held old new answers.Refuted text = PutsDecided words held old new answers.Refuted text None
Means words held old new (answers.Fault f) text = IsFaulted words held old new f text
Means words held old new answers.ReadFault text = IsUnread words held old new text
Means words held old new answers.WriteFault text = IsUnwritten words held old new text
Means words held old new answers.Usage text = IsUsage words old new text
Means words held old new answers.NoMemory text = IsOutOfMemory words held old new text
Means words held old new (answers.Rejected line) text = IsChecked words held old new (answers.Rejected line) text

-- The text of the status was appended whole.
abbrev pub Printed : List (List ℕ) → Option Files → Option Files → Option Files → Option (List ℕ) → Option (List ℕ) → Status → Type 0
Printed words held old new before now status = (text : List ℕ) × Means words held old new status text × Appends before now text

-- The whole answer. On a fault of writing a prefix was appended of the text that was being written, and the tray is
-- as the status to which that text belongs has it. On every other status its text was appended whole.
abbrev pub Headline : List (List ℕ) → Option Files → Option Files → Option Files → Option (List ℕ) → Option (List ℕ) → Status → Type 0
Headline words held old new before now answers.WriteFault =
    (status : Status) × (text : List ℕ) × Means words held old new status text × AppendsPrefix before now text
Headline words held old new before now status = Printed words held old new before now status

-- A text that tells of a failed read or a failed put belongs to one that failed in this call.
abbrev pub IsCaused : Type 0 → Type 0 → Status → Type 0
IsCaused Read Put answers.ReadFault = Read
IsCaused Read Put answers.WriteFault = Put
IsCaused Read Put status = Unit {0}

-- A fault of writing, where it is known whether a read, a put and a print failed in this call: the put failed, and its
-- line was printed whole; or the print failed, and a prefix was appended of the text that was being written, which
-- tells of no failure that did not happen.
abbrev pub IsToldWriteFault : Type 0 → Type 0 → Type 0 → List (List ℕ) → Option Files → Option Files → Option Files → Option (List ℕ) → Option (List ℕ) → Type 0
IsToldWriteFault Read Put Print words held old new before now =
    (Put × ((text : List ℕ) × IsUnwritten words held old new text × Appends before now text))
    ⊎ (Print × ((status : Status) × (text : List ℕ) × IsCaused Read Put status × Means words held old new status text × AppendsPrefix before now text))
