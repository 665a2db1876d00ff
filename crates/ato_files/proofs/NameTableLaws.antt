-- No text stands twice in the table of a program's names.
use Rattle.std.proofs.Common.{◌≡◌, ℕ, zero, suc, List, [], ◌∷◌, codes, Some, refl, sym, ap, subst, ◌∙◌}
use Rattle.std.specs.Prelude.{fold, slice_get}
use Rattle.std.proofs.lemmas.Option.{none-some}
use Rattle.ato_base.specs.NameTable.{with_name}
use Rattle.ato_base.specs.Stages.{Reaches, arrived, onward}
use Rattle.ato_lexer.specs.Tokens.{names_in}
use Rattle.ato_files.specs.declared.program.Program.{Program}
use Rattle.ato_files.specs.Library.{library_names, library_text}
use Rattle.ato_files.specs.Lists.{Among}
use Rattle.ato_files.specs.Loading.{Held, Loaded}
use Rattle.ato_files.specs.Programs.{Stage, Started, Loading, Named, Leads, IsProgram, NamesDiffer}
use Rattle.ato_files.proofs.HeldLaws.{Distinct, with_all, at_place}
use Rattle.ato_files.proofs.LexedLibrary.{library_lexed}

-- ---- from tables to places

one_place : (names : List (List ℕ)) (i j : ℕ) (text : List ℕ) → Distinct names → slice_get names i ≡ Some text → slice_get names j ≡ Some text → i ≡ j
one_place [] i j text d e f = absurd (none-some text e)
one_place (n ∷ names) zero zero text d e f = refl
one_place (n ∷ names) zero (suc j) text d e f = let same : n ≡ text = cc in absurd (d.0 (subst (λ t. Among t names) (sym same) (at_place names j text f)))
one_place (n ∷ names) (suc i) zero text d e f = let same : n ≡ text = cc in absurd (d.0 (subst (λ t. Among t names) (sym same) (at_place names i text e)))
one_place (n ∷ names) (suc i) (suc j) text d e f = ap suc (one_place names i j text d.1 e f)

-- ---- stages

-- the names that each table begins with
first_names : List (List ℕ)
first_names = codes "abs" ∷ codes "max" ∷ codes "min" ∷ []

first_distinct : Distinct first_names
unfolding first_names
first_distinct = with_all [] (codes "abs" ∷ codes "max" ∷ codes "min" ∷ []) tt

library_distinct : Distinct library_names
unfolding first_names
library_distinct = subst Distinct (sym library_lexed.names_are) (with_all first_names (names_in library_text) first_distinct)

Tabled : Stage → Type 0
Tabled Started = Unit {0}
Tabled (Loading l) = Distinct l.names
Tabled (Named l) = Distinct l.names

module _ (held : Held) (entry : List ℕ) where
  goes_on : (s t : Stage) → Leads held entry s t → Tabled s → Tabled t
  unfolding Tabled
  goes_on Started Started a d = elim a [ ]
  goes_on Started (Named m) a d = elim a [ ]
  goes_on (Named l) t a d = elim a [ ]
  goes_on (Loading l) Started a d = elim a [ ]
  goes_on Started (Loading l) a d = subst Distinct (sym a.names) library_distinct
  goes_on (Loading l) (Loading m) a d = subst Distinct (sym a.next.are.lexed.names_are) (with_all l.names (names_in a.file.bytes) d)
  goes_on (Loading l) (Named m) a d = subst (λ (n : Loaded). Distinct n.names) (sym a.0) d

  stays : (s t : Stage) → Reaches (Leads held entry) s t → Tabled s → Tabled t
  stays s t arrived d = d
  stays s t (onward {t = u} a more) d = stays u t more (goes_on s u a d)

pub names_differ : (held : Held) (entry : List ℕ) (p : Program) → IsProgram held entry p → NamesDiffer p.names
unfolding Tabled
names_differ held entry p is i j text e f =
    one_place p.names i j text (subst Distinct (sym is.names) (stays held entry Started (Named is.loaded) is.reached tt)) e f
