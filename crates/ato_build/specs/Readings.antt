-- What reading a project gives.
use Rattle.std.specs.Prelude.{◌≡◌, ℕ, List, Option, Result, Ok, Err}
use Rattle.ato_base.specs.declared.faults.Fault.{Fault}
use Rattle.ato_base.specs.declared.memory.NoMemory.{NoMemory}
use Rattle.ato_first_catalog.specs.Catalogue.{IsCatalogue}
use Rattle.ato_first_catalog.specs.WellMade.{IsWellMade}
use Rattle.ato_outside.specs.Files.{Files}
use Rattle.ato_words.specs.Words.{IsJob}
use Rattle.ato_words.specs.declared.words.Task.{Task}
use Rattle.ato_build.specs.Entry.{source_limit, GivesBlock}
use Rattle.ato_build.specs.Found.{Whole, HasFile}
use Rattle.ato_build.specs.Headline.{Means}
use Rattle.ato_build.specs.Input.{catalogue_limit}
use Rattle.ato_build.specs.Projects.{project_of}
use Rattle.ato_build.specs.Texts.{fault_text, files_with, said_text}
use Rattle.ato_build.specs.declared.answer.Answer.{Answer}
use Rattle.ato_build.specs.declared.project.Project.{Project}
use Rattle.ato_build.specs.declared.reading.Reading.{Reading}
use Rattle.ato_build.specs.declared.reading.Reading.TheVariants.{Ready, Ended}
use Rattle.ato_build.specs.declared.reading.Sources.{Sources}
use Rattle.ato_build.specs.declared.status.Status.{Status}
use Rattle.ato_build.specs.declared.status.Status.TheVariants as answers

-- The entry and the catalogue were read whole, and no fault stands in them.
pub record AreSources (held : Option Files) (project : Project) (sources : Sources) : Type 0 where
  pub entry : HasFile held source_limit project.file (Whole sources.source)
  pub gives : GivesBlock project (Whole sources.source) sources.block
  pub bytes : List ℕ
  pub catalogue : HasFile held catalogue_limit project.catalogue (Whole bytes)
  pub read : IsCatalogue bytes sources.catalog
  pub made : IsWellMade sources.catalog

-- The answer means for each task of the project what the headline says, where nothing is put.
abbrev pub EndsEarly : Option Files → Project → Answer → Type 0
EndsEarly held project answer =
    (words : List (List ℕ)) (task : Task) (tray : Option Files) → IsJob words task → project_of task ≡ project → Means words held tray tray answer.status (said_text answer.said)

abbrev pub IsReading : Option Files → Project → Reading → Type 0
IsReading held project (Ready sources) = AreSources held project sources
IsReading held project (Ended answer) = EndsEarly held project answer

-- Reading ended with this status.
abbrev pub EndsWith : Status → Result Reading NoMemory → Type 0
EndsWith status (Ok (Ready sources)) = ⊥
EndsWith status (Ok (Ended answer)) = answer.status ≡ status
EndsWith status (Err e) = ⊥

-- Reading ended with the line of this fault, unless memory ran out.
abbrev pub IsFaultEnd : Project → List ℕ → Fault → Result Reading NoMemory → Type 0
IsFaultEnd project source f (Ok (Ready sources)) = ⊥
IsFaultEnd project source f (Ok (Ended answer)) = (answer.status ≡ answers.Fault f) × (said_text answer.said ≡ fault_text (files_with project source) f)
IsFaultEnd project source f (Err e) = Unit {0}
