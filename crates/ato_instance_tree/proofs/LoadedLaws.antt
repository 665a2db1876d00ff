-- What is known of the names of a loaded program.
use Rattle.std.proofs.Common.{◌≡◌, ℕ, List, Some, None, sym, ap, subst, ◌∙◌}
use Rattle.std.specs.Prelude.{slice_get}
use Rattle.ato_base.specs.Stages.{Reaches, arrived, onward}
use Rattle.ato_files.specs.declared.program.Program.{Program}
use Rattle.ato_files.specs.Loading.{Held, Loaded, all_files}
use Rattle.ato_files.specs.Programs.{Stage, Started, Loading, Named, Leads, IsProgram}
use Rattle.ato_files.specs.NameFaults.{name_fault}
use Rattle.ato_files.proofs.NameTableLaws as tables
use Rattle.ato_instance_tree.specs.Elaborated.{IsLoaded}

Sound : Stage → Type 0
Sound Started = Unit {0}
Sound (Loading l) = Unit {0}
Sound (Named l) = name_fault (all_files l) ≡ None

module _ (held : Held) (entry : List ℕ) where
  goes_on : (s t : Stage) → Leads held entry s t → Sound t
  unfolding Sound
  goes_on Started Started a = elim a [ ]
  goes_on Started (Named m) a = elim a [ ]
  goes_on (Named l) t a = elim a [ ]
  goes_on (Loading l) Started a = elim a [ ]
  goes_on Started (Loading l) a = tt
  goes_on (Loading l) (Loading m) a = tt
  goes_on (Loading l) (Named m) a = subst (λ (n : Loaded). name_fault (all_files n) ≡ None) (sym a.0) a.1.sound

  stays : (s t : Stage) → Reaches (Leads held entry) s t → Sound s → Sound t
  stays s t arrived d = d
  stays s t (onward {t = u} a more) d = stays u t more (goes_on s u a)

  sound_program : (p : Program) → IsProgram held entry p → name_fault p.files ≡ None
  unfolding Sound
  sound_program p is = ap name_fault is.files ∙ stays Started (Named is.loaded) is.reached tt

pub names_are_sound : (program : Program) → IsLoaded program → name_fault program.files ≡ None
names_are_sound program is = sound_program is.held is.entry_file program is.is

pub names_differ : (program : Program) → IsLoaded program → (i j : ℕ) (text : List ℕ) → slice_get program.names i ≡ Some text → slice_get program.names j ≡ Some text → i ≡ j
names_differ program is = tables.names_differ is.held is.entry_file program is.is
