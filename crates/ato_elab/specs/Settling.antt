-- The type of a member by the replacements that end there. Only private functions have clauses in these words.
use Rattle.std.specs.Prelude.{◌≡◌, ℕ, List, [], ◌∷◌, ◌++◌, map, length, Option, Some, None}
use Rattle.ato_base.specs.declared.places.Span.{Span}
use Rattle.ato_base.specs.declared.places.Place.TheVariants as place
use Rattle.ato_base.specs.declared.faults.FaultKind.TheVariants as kinds
use Rattle.ato_ast.specs.declared.names.Named.{Named}
use Rattle.ato_files.specs.declared.program.SourceFile.{SourceFile}
use Rattle.ato_files.specs.Lists.{last_of, first_of_all}
use Rattle.ato_instance_tree.specs.TreeFaults.{fault_in, not_special}
use Rattle.ato_elab.specs.Waiting.{Waits, ends}

-- From a type on, these replacements lead to a type, each to a descendant of the one before.
abbrev pub LeadsTo : List SourceFile → ℕ → List (ℕ × Named) → ℕ → Type 0
LeadsTo files from rs to = (new : Named) (path : List ℕ) → ((last_of (from, new) rs).0 ≡ to) × (not_special files path from rs ≡ [])

-- The first that does not has its name at this place.
abbrev pub StopsAt : List SourceFile → ℕ → List (ℕ × Named) → Span → Type 0
StopsAt files from rs at = (path : List ℕ) → first_of_all (not_special files path from rs) ≡ Some (fault_in path kinds.NotSpecial (place.Source at))

-- Behind some replacements the type is this one.
abbrev pub Passes : List SourceFile → ℕ → List (ℕ × Named) → ℕ → Type 0
Passes files from rs next = (more : List (ℕ × Named)) → ((to : ℕ) → LeadsTo files next more to → LeadsTo files from (rs ++ more) to)
    × ((at : Span) → StopsAt files next more at → StopsAt files from (rs ++ more) at)

-- Among some replacements is the first whose name, at this place, names no descendant.
abbrev pub Strays : List SourceFile → ℕ → List (ℕ × Named) → Span → Type 0
Strays files from rs at = (more : List (ℕ × Named)) → StopsAt files from (rs ++ more) at
