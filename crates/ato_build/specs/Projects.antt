-- What every task reads, and the options of a build.
use Rattle.ato_words.specs.declared.words.Build.{Build}
use Rattle.ato_words.specs.declared.words.Check.{Check}
use Rattle.ato_words.specs.declared.words.Task.{Task}
use Rattle.ato_words.specs.declared.words.Task.TheVariants as tasks
use Rattle.ato_build.specs.declared.project.Options.{Options}
use Rattle.ato_build.specs.declared.project.Project.{Project}

abbrev pub built_project : Build → Project
built_project build = record { file = build.file; block = build.block; catalogue = build.catalogue }

abbrev pub checked_project : Check → Project
checked_project check = record { file = check.file; block = check.block; catalogue = check.catalogue }

-- the entry and the catalogue of a task
abbrev pub project_of : Task → Project
project_of (tasks.Build build) = built_project build
project_of (tasks.Check check) = checked_project check

abbrev pub options_of : Build → Options
options_of build = record { out = build.out; steps = build.steps }
