-- Only private functions have clauses in these words.
-- Declarations that clash with earlier ones.
use Rattle.std.specs.Prelude.{◌≡◌, ℕ, Bool, true, false, ◌&&◌, ◌||◌, ◌==◌, not, List, [], ◌∷◌, ◌++◌, if◌then◌else◌}
use Rattle.std.specs.List.{list_any}
use Rattle.ato_base.specs.declared.faults.Fault.{Fault}
use Rattle.ato_base.specs.declared.faults.FaultKind.TheVariants as kinds
use Rattle.ato_files.specs.declared.members.Sort.{Sort}
use Rattle.ato_files.specs.declared.members.Sort.TheVariants as sorts
use Rattle.ato_files.specs.declared.members.Declared.{Declared}
use Rattle.ato_files.specs.declared.clashes.Clashes.{Clashes}
use Rattle.ato_files.specs.Faults.{fault}
use Rattle.ato_files.specs.NumberSet.{has}

abbrev pub agrees : Sort → Sort → Bool
agrees sorts.Signal sorts.Signal = true
agrees sorts.Param sorts.Param = true
agrees _ _ = false

abbrev pub clash_of : Declared → Declared → Bool
clash_of a b = (a.name.name.0 == b.name.name.0) && not (agrees a.sort b.sort)

-- the declarations that clash with one before them
abbrev pub clashing_of : List Declared → List Declared → List Declared
clashing_of seen [] = []
clashing_of seen (d ∷ more) = (if list_any (clash_of d) seen then d ∷ [] else []) ++ clashing_of (d ∷ seen) more

-- whether a name of this sort clashes with the names that were put in
abbrev pub finds : Clashes → ℕ → Sort → Bool
finds c n sorts.Signal = has c.not_signals n
finds c n sorts.Instance = has c.not_signals n || has c.not_params n
finds c n sorts.Param = has c.not_params n

abbrev pub clashes_with : Clashes → Declared → Bool
clashes_with c d = finds c d.name.name.0 d.sort

-- The names that were put in are those of these declarations.
abbrev pub AreDeclared : Clashes → List Declared → Type 0
AreDeclared c seen = (d : Declared) → clashes_with c d ≡ list_any (clash_of d) seen

abbrev pub declared_twice : Declared → Fault
declared_twice d = fault kinds.NameTwice d.name.at
