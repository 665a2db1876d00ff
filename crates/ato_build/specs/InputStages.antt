-- How the input of a task is read, stage by stage: what each stage reads, what it leads to, and which fault is its first.
use Rattle.std.specs.Prelude.{◌≡◌, ℕ, List, Option, Some, None}
use Rattle.ato_base.specs.Stages.{Reaches, StandsFrom}
use Rattle.ato_base.specs.declared.faults.Fault.{Fault}
use Rattle.ato_first.specs.declared.first_form.Block.{Block}
use Rattle.ato_words.specs.declared.words.Check.{Check}
use Rattle.ato_words.specs.declared.words.Task.{Task}
use Rattle.ato_words.specs.declared.words.Task.TheVariants as tasks
use Rattle.ato_build.specs.Boards.{Board}
use Rattle.ato_build.specs.Entry.{GivesBlock, StandsInEntry}
use Rattle.ato_build.specs.Found.{Whole}
use Rattle.ato_build.specs.Input.{Input, GivesContents, StandsInCatalogue, StandsInCertificate}
use Rattle.ato_build.specs.Projects.{project_of}

-- How far the input was read without a fault: not at all, up to the block of the entry, up to the board, and, for a check, up to
-- the bytes of the certificate.
pub data Stage : Type 0 where
  Started : Stage
  WithBlock : Block → Stage
  WithBoard : Board → Stage
  WithCertificate : Board → List ℕ → Stage

-- the name of the file that a stage reads next, where it reads one
abbrev pub next_file : Task → Stage → Option (List ℕ)
next_file task Started = Some (project_of task).file
next_file task (WithBlock block) = Some (project_of task).catalogue
next_file (tasks.Check check) (WithBoard board) = Some check.cert
next_file task stage = None

-- The stage leads to the next one: the entry gives the block, the catalogue the rest of the board, and a check goes on to the bytes of
-- its certificate.
abbrev pub Leads : Task → Input → Stage → Stage → Type 0
Leads task input Started (WithBlock block) = GivesBlock (project_of task) input.entry block
Leads task input (WithBlock block) (WithBoard board) = (board.block ≡ block) × GivesContents input.catalogue board.contents
Leads (tasks.Check check) input (WithBoard board) (WithCertificate same bytes) = (same ≡ board) × (input.certificate ≡ Whole bytes)
Leads task input stage next = ⊥

-- The fault is the first of what the stage reads.
abbrev pub Has : Task → Input → Stage → Fault → Type 0
Has task input Started f = StandsInEntry (project_of task) input.entry f
Has task input (WithBlock block) f = StandsInCatalogue input.catalogue f
Has task input (WithBoard board) f = StandsInCertificate task input.certificate f
Has task input (WithCertificate board bytes) f = ⊥

-- The stage is reached: no fault stands before it.
abbrev pub IsReached : Task → Input → Stage → Type 0
IsReached task input stage = Reaches (Leads task input) Started stage

-- The fault stands in the input of the task.
abbrev pub Stands : Task → Input → Fault → Type 0
Stands task input f = StandsFrom (Leads task input) (Has task input) Started f

-- The input of a task is whole up to its board.
abbrev pub GivesBoard : Task → Input → Board → Type 0
GivesBoard task input board = IsReached task input (WithBoard board)

-- The input of a check is whole: it gives the board, and the bytes of the certificate.
abbrev pub GivesCertificate : Check → Input → Board → List ℕ → Type 0
GivesCertificate check input board bytes = IsReached (tasks.Check check) input (WithCertificate board bytes)
