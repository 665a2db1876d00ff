-- Which occurrences assign. Only private functions have clauses in these words.
use Rattle.std.specs.Prelude.{ℕ, suc, List, [], ◌∷◌, Option, Some, None, ◌==◌, is_some, slice_get, if◌then◌else◌}
use Rattle.std.specs.Option.{option_map, option_and_then}
use Rattle.indexmap.specs.IndexMap.{get}
use Rattle.ato_ast.specs.declared.paths.Path.{Path}
use Rattle.ato_ast.specs.declared.stmts.Stmt.{Stmt}
use Rattle.ato_ast.specs.declared.stmts.Stmt.TheVariants as stmt
use Rattle.ato_instance_tree.specs.declared.tree.Occurrence.{Occurrence}
use Rattle.ato_instance_tree.specs.Walk.{counts, counts_maybe}
use Rattle.ato_elab.specs.declared.assigned.Assigned.{Assigned}
use Rattle.ato_elab.specs.declared.built.Built.{Built}
use Rattle.ato_elab.specs.declared.finding_paths.Found.{Found}
use Rattle.ato_elab.specs.declared.finding_paths.Found.TheVariants as found
use Rattle.ato_elab.specs.Built.{same_key}
use Rattle.ato_elab.specs.Finding.{steps_in}

-- ---- what is held

-- the occurrence that assigns to a name of an instance, and the occurrence's instance
abbrev pub held_by : Assigned → ℕ → ℕ → Option (ℕ × ℕ)
held_by a instance name = get same_key a.by (instance, name)

-- the occurrence alone
abbrev pub assigned_to : Assigned → ℕ → ℕ → Option ℕ
assigned_to a instance name = option_map (λ p. p.0) (held_by a instance name)

-- ---- targets

abbrev pub found_target : Found → Option (ℕ × ℕ)
found_target (found.Free instance n) = Some (instance, n.name.0)
found_target (found.Member instance n number s) = Some (instance, n.name.0)
found_target (found.Lost at) = None
found_target (found.Pin n) = None

-- the instance and the name at the end of a path
unfoldable pub path_target : Built → ℕ → Path → Option (ℕ × ℕ)
path_target built instance p = if is_some p.pin then None else found_target (steps_in built instance p.at p.steps)

-- the instance and the name to which a statement of an instance assigns something
abbrev pub target_in : Built → ℕ → Stmt → Option (ℕ × ℕ)
target_in built instance (stmt.Assign p v at) = if counts v then path_target built instance p else None
target_in built instance (stmt.Declare n unit v at) = if counts_maybe v then Some (instance, n.name.0) else None
target_in built instance _ = None

-- ---- choices

-- Of two occurrences the later one counts where both are of one instance, else the first.
abbrev pub chosen_of : Option (ℕ × ℕ) → ℕ × ℕ → ℕ × ℕ
chosen_of None new = new
chosen_of (Some old) new = if old.1 == new.1 then new else old

abbrev pub chosen_for : ℕ → ℕ → ℕ × ℕ → Option (ℕ × ℕ) → Option (ℕ × ℕ) → Option (ℕ × ℕ)
chosen_for instance name new None old = old
chosen_for instance name new (Some key) old = if same_key key (instance, name) then Some (chosen_of old new) else old

abbrev pub noted_entry : Built → ℕ → ℕ → ℕ → Stmt → Option (ℕ × ℕ) → Option Occurrence → Option (ℕ × ℕ)
noted_entry built instance name number s old None = old
noted_entry built instance name number s old (Some e) = chosen_for instance name (number, e.node) (target_in built e.node s) old

-- what counts for a name of an instance behind one more statement
unfoldable pub noted : Built → ℕ → ℕ → ℕ → Stmt → Option (ℕ × ℕ) → Option (ℕ × ℕ)
noted built instance name number s old = noted_entry built instance name number s old (slice_get built.occurrences number)

-- what counts behind the statements from a number on
unfoldable pub picked : Built → ℕ → ℕ → ℕ → List Stmt → Option (ℕ × ℕ) → Option (ℕ × ℕ)
picked built instance name number [] old = old
picked built instance name number (s ∷ ss) old = picked built instance name (suc number) ss (noted built instance name number s old)
