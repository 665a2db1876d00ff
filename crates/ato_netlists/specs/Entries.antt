-- What entries of a tree put in for a name of an instance. Only private functions have clauses in these words.
use Rattle.std.specs.Prelude.{ℕ, Bool, ◌&&◌, ◌==◌, List, Option, if◌then◌else◌}
use Rattle.std.specs.Option.{option_map, option_and_then, option_or}
use Rattle.std.specs.Str.{bytes_eq}
use Rattle.ato_files.specs.declared.program.Program.{Program}
use Rattle.ato_instance_tree.specs.declared.tree.Effective.{Effective}
use Rattle.ato_instance_tree.specs.declared.tree.Tree.{Tree}
use Rattle.ato_instance_tree.specs.Members.{source_text}
use Rattle.ato_instance_tree.specs.PathFaults.{string_of}
use Rattle.ato_instance_tree.specs.Targets.{statement_of}

-- The entry is of a name of an instance, by the instance's number and the name's text.
abbrev pub is_for : ℕ → List ℕ → Effective → Bool
is_for number word e = (number == e.node) && bytes_eq word e.name

-- the string that the assignment of an entry assigns
abbrev pub string_for : Program → Tree → Effective → Option (List ℕ)
string_for program tree e = option_map (λ text. source_text program.files text.contents) (option_and_then string_of (statement_of program tree e.by))

-- what is held behind an entry
unfoldable pub held_behind : Program → Tree → ℕ → List ℕ → Option (List ℕ) → Effective → Option (List ℕ)
held_behind program tree number word old e = if is_for number word e then option_or (string_for program tree e) old else old
