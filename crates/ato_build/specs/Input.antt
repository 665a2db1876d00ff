-- The input of a task: its entry file, its catalogue and the certificate of a check, with what each gives and its first fault.
use Rattle.std.specs.Prelude.{◌≡◌, ℕ, ◌^◌, Option, Ok, Err}
use Rattle.std.specs.FinMap.{get}
use Rattle.ato_base.specs.declared.faults.Fault.{Fault}
use Rattle.ato_base.specs.declared.faults.FaultKind.TheVariants as kinds
use Rattle.ato_first_catalog.specs.Contents.{Contents, contents_of}
use Rattle.ato_outside.specs.Files.{Files}
use Rattle.ato_words.specs.declared.words.Task.{Task}
use Rattle.ato_words.specs.declared.words.Task.TheVariants as tasks
use Rattle.ato_build.specs.Entry.{source_limit, word_fault}
use Rattle.ato_build.specs.Found.{Found, Missing, TooLong, Whole, found_of, HasFile}
use Rattle.ato_build.specs.Projects.{project_of}

-- The most bytes that a catalogue may have.
abbrev pub catalogue_limit : ℕ
catalogue_limit = 2 ^ 24

-- The most bytes that a certificate may have.
abbrev pub certificate_limit : ℕ
certificate_limit = 2 ^ 30

-- The catalogue has these contents.
abbrev pub GivesContents : Found → Contents → Type 0
GivesContents Missing contents = ⊥
GivesContents TooLong contents = ⊥
GivesContents (Whole bytes) contents = contents_of bytes ≡ Ok contents

-- The fault stands in the catalogue: it is missing (F8), too long (F9), or the first of its own (F20 to F25).
abbrev pub StandsInCatalogue : Found → Fault → Type 0
StandsInCatalogue Missing f = f ≡ word_fault kinds.FileMissing 2
StandsInCatalogue TooLong f = f ≡ word_fault kinds.FileTooLong 2
StandsInCatalogue (Whole bytes) f = contents_of bytes ≡ Err f

-- The fault stands in the certificate of a task: it is missing (F8) or too long (F9). A build reads none.
abbrev pub StandsInCertificate : Task → Found → Fault → Type 0
StandsInCertificate (tasks.Build build) found f = ⊥
StandsInCertificate (tasks.Check check) Missing f = f ≡ word_fault kinds.FileMissing 3
StandsInCertificate (tasks.Check check) TooLong f = f ≡ word_fault kinds.FileTooLong 3
StandsInCertificate (tasks.Check check) (Whole bytes) f = ⊥

-- what stands at the names of the files that a task reads
pub record Input : Type 0 where
  pub entry : Found
  pub catalogue : Found
  pub certificate : Found

-- The certificate's file has this, where it is told. For a build, which reads none, it counts as missing.
abbrev pub HasCertificate : Option Files → Task → Found → Type 0
HasCertificate held (tasks.Build build) found = found ≡ Missing
HasCertificate held (tasks.Check check) found = HasFile held certificate_limit check.cert found

-- The files of a task have this input, where they are told.
pub record HasInput (held : Option Files) (task : Task) (input : Input) : Type 0 where
  pub entry : HasFile held source_limit (project_of task).file input.entry
  pub catalogue : HasFile held catalogue_limit (project_of task).catalogue input.catalogue
  pub certificate : HasCertificate held task input.certificate

-- what stands at the certificate's name in files that are told
abbrev pub certificate_of : Files → Task → Found
certificate_of files (tasks.Build build) = Missing
certificate_of files (tasks.Check check) = found_of certificate_limit (get files check.cert)

-- the input of files that are told
abbrev pub input_of : Files → Task → Input
input_of files task = record {
  entry = found_of source_limit (get files (project_of task).file);
  catalogue = found_of catalogue_limit (get files (project_of task).catalogue);
  certificate = certificate_of files task;
}
