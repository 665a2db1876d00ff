-- The entries that are made from the assignments that are held. Only private functions have clauses in these words.
use Rattle.std.specs.Prelude.{◌≡◌, ℕ, List, Option, Some, None, slice_get, map, filter_map}
use Rattle.std.specs.Option.{option_map}
use Rattle.ato_instance_tree.specs.declared.tree.Effective.{Effective}
use Rattle.indexmap.specs.IndexMap.{IsUnique}
use Rattle.ato_ast.specs.declared.stmts.Stmt.{Stmt}
use Rattle.ato_files.specs.declared.program.SourceFile.{SourceFile}
use Rattle.ato_files.specs.NameFaults.{name_fault}
use Rattle.ato_files.specs.Programs.{NamesDiffer}
use Rattle.ato_instance_tree.specs.declared.tree.Tree.{Tree}
use Rattle.ato_instance_tree.specs.Walk.{Occ}
use Rattle.ato_instance_tree.specs.Order.{occurrences}
use Rattle.ato_instance_tree.specs.PathFaults.{keys_of, path_fault}
use Rattle.ato_instance_tree.specs.Trees.{AreEffective}
use Rattle.ato_elab.specs.declared.assigned.Assigned.{Assigned}
use Rattle.ato_elab.specs.declared.built.Built.{Built}
use Rattle.ato_elab.specs.Assigned.{held_by, picked}
use Rattle.ato_elab.specs.Built.{same_key}
use Rattle.ato_elab.specs.Standing.{IsAt, IsReady}
use Rattle.ato_elab.specs.Landing.{AreAssigned}

-- the entry of an assignment that is held for a name of an instance, where the name has a text
abbrev pub entry_of : List (List ℕ) → (ℕ × ℕ) × (ℕ × ℕ) → Option Effective
entry_of names held = option_map (λ text. record { node = held.0.0; name = text; by = held.1.0 }) (slice_get names held.0.1)

-- the entries of all that are held
abbrev pub entries_of : List (List ℕ) → Assigned → List Effective
entries_of names a = filter_map (entry_of names) a.by.entries

-- The node of this number is an instance.
pub record StandsAt (files : List SourceFile) (entry number : ℕ) : Type 0 where
  pub path : List ℕ
  pub at : IsAt files entry number path

-- What is held is held for names of instances.
pub record AreKeys (files : List SourceFile) (entry : ℕ) (a : Assigned) : Type 0 where
  pub each : (number name : ℕ) (p : ℕ × ℕ) → held_by a number name ≡ Some p → StandsAt files entry number

-- What one pass over the statements of all occurrences holds is held for names of instances.
abbrev pub KeysStand : Type 0
KeysStand = (files : List SourceFile) (names : List (List ℕ)) (entry : ℕ) (built : Built) (ss : List Stmt) (a : Assigned) → IsReady files names entry built
    → ss ≡ map (λ o. o.at.stmt) (occurrences files entry) → ((instance name : ℕ) → held_by a instance name ≡ picked built instance name 0 ss None) → AreKeys files entry a

-- No occurrence stands twice.
pub record OccurOnce (files : List SourceFile) (entry : ℕ) : Type 0 where
  pub once : (i j : ℕ) (o : Occ) → slice_get (occurrences files entry) i ≡ Some o → slice_get (occurrences files entry) j ≡ Some o → i ≡ j

-- Where no fault of names stands, no occurrence stands twice.
abbrev pub NothingOccursTwice : Type 0
NothingOccursTwice = (files : List SourceFile) (entry : ℕ) → name_fault files ≡ None → OccurOnce files entry

-- Where no fault of paths stands, the entries that are made from the assignments that count are those of the tree.
abbrev pub EntriesCount : Type 0
EntriesCount = (files : List SourceFile) (names : List (List ℕ)) (entry : ℕ) (built : Built) (a : Assigned) (tree : Tree) → IsReady files names entry built
    → AreAssigned files entry a → AreKeys files entry a → OccurOnce files entry → NamesDiffer names → IsUnique same_key a.by → path_fault files entry (keys_of names) ≡ None
    → tree.nodes ≡ built.nodes → tree.effective ≡ entries_of names a → AreEffective files entry names tree
