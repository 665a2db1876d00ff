-- What is read whole has all files of the project.
use Rattle.std.proofs.Common.{◌≡◌, ℕ, List, None, sym, subst}
use Rattle.std.specs.Prelude.{⊤, map}
use Rattle.ato_base.specs.Stages.{Reaches, arrived, onward}
use Rattle.ato_files.specs.declared.program.SourceFile.{SourceFile}
use Rattle.ato_files.specs.Lists.{Among}
use Rattle.ato_files.specs.Files.{next_name, name_of, AreFiles, AreFirst, no_file, next_file, Reached}
use Rattle.ato_files.specs.Loading.{Held, Loaded, LeadsOn, IsStart}
use Rattle.ato_files.specs.Programs.{Stage, Started, Loading, Named, Leads, IsReached}
use Rattle.ato_files.proofs.FileLaws as files

-- the files stand in load order
abbrev pub Fine : List SourceFile → SourceFile → Type 0
Fine before file = ⊤

module _ (held : Held) (entry : List ℕ) where
  record AreAll (l : Loaded) : Type 0 where
    first : AreFirst Fine entry l.files
    last : next_name entry l.files ≡ None

  -- what holds of each stage that is reached
  abbrev Holds : Stage → Type 0
  Holds Started = ⊤
  Holds (Loading l) = AreFirst Fine entry l.files
  Holds (Named l) = AreAll l

  at_start : (l : Loaded) → IsStart l → AreFirst Fine entry l.files
  at_start l s = subst (AreFirst Fine entry) (sym s.files) no_file

  one_more : (l m : Loaded) → LeadsOn held entry l m → AreFirst Fine entry l.files → AreFirst Fine entry m.files
  one_more l m s d = subst (AreFirst Fine entry) (sym s.files) (next_file {before = l.files} {file = s.file} d s.next.are.read.next tt)

  step : (s t : Stage) → Leads held entry s t → Holds s → Holds t
  step Started Started a h = elim a [ ]
  step Started (Named m) a h = elim a [ ]
  step (Named _) t a h = elim a [ ]
  step (Loading l) Started a h = elim a [ ]
  step Started (Loading l) a h = at_start l a
  step (Loading l) (Loading m) a h = one_more l m a h
  step (Loading l) (Named m) a h = subst AreAll (sym a.0) (record { first = h; last = a.1.last })

  on : (s t : Stage) → Reaches (Leads held entry) s t → Holds s → Holds t
  on s t arrived h = h
  on s t (onward {t = u} a rest) h = on u t rest (step s u a h)

  pub files_first : (l : Loaded) → IsReached held entry (Loading l) → AreFirst Fine entry l.files
  files_first l reached = on Started (Loading l) reached tt

  pub all_loaded : (l : Loaded) → IsReached held entry (Named l) → AreFiles entry l.files
  all_loaded l reached = let all = on Started (Named l) reached tt in (files.loads_all Fine entry l.files).all all.first all.last

pub no_other_name : (entry : List ℕ) (files : List SourceFile) (name : List ℕ) → AreFiles entry files → Reached entry files name → Among name (map name_of files)
no_other_name entry found name are reached = (files.loads_all Fine entry found).there are reached
