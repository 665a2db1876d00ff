use Rattle.std.specs.Prelude.{◌≡◌, List, ℕ, Option, Result, Ok, Err}
use Rattle.ato_base.specs.declared.memory.NoMemory.{NoMemory}
use Rattle.ato_outside.specs.Files.{Files}
use Rattle.ato_outside.specs.declared.tray.TrayError.{TrayError}
use Rattle.ato_outside.specs.declared.tray.TrayError.TheVariants as tray_errors
use Rattle.ato_build.specs.Causes.{IsEnd}
use Rattle.ato_build.specs.Headline.{Means}
use Rattle.ato_build.specs.Texts.{said_text, write_fault_text, memory_text}
use Rattle.ato_build.specs.declared.answer.Answer.{Answer}
use Rattle.ato_build.specs.declared.outputs.Stop.{Stop}
use Rattle.ato_build.specs.declared.status.Status.{Status}
use Rattle.ato_build.specs.declared.status.Status.TheVariants as answers

-- The answer before it is printed means what the headline says of its status. For want of memory nothing is put.
abbrev pub IsTrueAnswer : List (List ℕ) → Option Files → Option Files → Option Files → Result Answer NoMemory → Type 0
IsTrueAnswer words held old new (Ok answer) = Means words held old new answer.status (said_text answer.said)
IsTrueAnswer words held old new (Err e) = new ≡ old

-- The answer has this status and text.
abbrev pub Is : Answer → Status → List ℕ → Type 0
Is answer status text = (answer.status ≡ status) × (said_text answer.said ≡ text)

-- the answer where the tray stopped at a file
abbrev pub stopped_answer : List ℕ → TrayError → Answer → Type 0
stopped_answer name tray_errors.Failed answer = Is answer answers.WriteFault (write_fault_text name)
stopped_answer name tray_errors.NoMemory answer = Is answer answers.NoMemory memory_text

abbrev pub IsStopped : Stop → Answer → Type 0
IsStopped stop answer = stopped_answer stop.name stop.error answer

-- A build ends so once its files are being put.
abbrev pub IsPutStatus : Status → Type 0
IsPutStatus answers.WriteFault = Unit {0}
IsPutStatus answers.NoMemory = Unit {0}
IsPutStatus status = IsEnd status
