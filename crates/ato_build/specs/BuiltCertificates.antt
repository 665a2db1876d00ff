-- Certificates that a build put.
use Rattle.std.specs.Prelude.{◌≡◌, ℕ, List, ◌++◌, codes, Some}
use Rattle.std.specs.FinMap.{get}
use Rattle.std.specs.List.{Contains}
use Rattle.ato_outside.specs.Files.{Files}
use Rattle.ato_words.specs.declared.words.Check.{Check}
use Rattle.ato_build.specs.Headline.{Decides}
use Rattle.ato_build.specs.Projects.{built_project, checked_project}
use Rattle.ato_build.specs.declared.outputs.Output.{Output}
use Rattle.ato_build.specs.declared.status.Status.{Status}

-- The certificate of a check is the one that a build puts, by its words and over files that had the same project.
pub record IsBuiltCertificate (files : Files) (check : Check) : Type 0 where
  pub words : List (List ℕ)
  pub before : Files
  pub status : Status
  pub outputs : List Output
  pub summary : List ℕ
  pub decides : Decides words (Some before) status outputs summary
  pub project : built_project decides.build ≡ checked_project check
  pub entry : get before check.file ≡ get files check.file
  pub catalogue : get before check.catalogue ≡ get files check.catalogue
  pub output : Output
  pub is_put : Contains outputs output
  pub named : output.name ≡ decides.build.out ++ codes ".cert"
  pub certificate : get files check.cert ≡ Some output.bytes
