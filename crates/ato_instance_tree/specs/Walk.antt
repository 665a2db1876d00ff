-- Types, statements and assignments at paths, each path walked afresh from the root. A path is the list of its names,
-- the innermost first.
use Rattle.std.specs.Prelude.{ℕ, Bool, true, false, ◌&&◌, List, [], ◌∷◌, ◌++◌, map, filter, Option, Some, None, if◌then◌else◌, option_to_list, is_none, ◌==◌}
use Rattle.std.specs.List.{flat_map}
use Rattle.std.specs.Option.{option_map}
use Rattle.std.specs.Str.{bytes_eq as same_path}
use Rattle.ato_ast.specs.declared.names.Named.{Named}
use Rattle.ato_ast.specs.declared.paths.Path.{Path}
use Rattle.ato_ast.specs.declared.stmts.Value.{Value}
use Rattle.ato_ast.specs.declared.stmts.Value.TheVariants as value
use Rattle.ato_ast.specs.declared.stmts.Stmt.{Stmt}
use Rattle.ato_ast.specs.declared.stmts.Stmt.TheVariants as stmt
use Rattle.ato_files.specs.declared.program.SourceFile.{SourceFile}
use Rattle.ato_files.specs.Lists.{last_of, first_of_all}
use Rattle.ato_instance_tree.specs.Types.{Located, type_stmts, meant}

-- A statement of the type at a path.
pub record Occ : Type 0 where
  pub path : List ℕ
  pub at : Located

abbrev pub occs : List SourceFile → List ℕ → Option ℕ → List Occ
occs files path type = map (λ l. record { path = path; at = l }) (flat_map (type_stmts files) (option_to_list type))

-- ---- what a statement says of a path

-- where names lead from a path
abbrev pub down : List Named → List ℕ → List ℕ
down [] path = path
down (n ∷ more) path = down more (n.name.0 ∷ path)

-- The written path leads from one path to the other.
abbrev pub leads : Path → List ℕ → List ℕ → Bool
leads p from path = is_none p.pin && same_path (down p.steps from) path

-- the type that a `new` gives to a name
abbrev pub news_of : List SourceFile → ℕ → ℕ → Stmt → List (ℕ × Named)
news_of files name block (stmt.Make n type at) = if n.name.0 == name then meant files block type else []
news_of files name block _ = []

abbrev pub news : List SourceFile → ℕ → Located → List (ℕ × Named)
news files name l = news_of files name l.block l.stmt

-- the type that a statement of the instance at `from` puts at a path
abbrev pub replaces_of : List SourceFile → List ℕ → List ℕ → ℕ → Stmt → List (ℕ × Named)
replaces_of files path from block (stmt.Replace p type at) = if leads p from path then meant files block type else []
replaces_of files path from block _ = []

abbrev pub replaces : List SourceFile → List ℕ → Occ → List (ℕ × Named)
replaces files path o = replaces_of files path o.path o.at.block o.at.stmt

-- A truth value has no effect.
abbrev pub counts : Value → Bool
counts (value.Truth is at) = false
counts _ = true

abbrev pub counts_maybe : Option Value → Bool
counts_maybe None = false
counts_maybe (Some v) = counts v

abbrev pub assigns_of : List ℕ → List ℕ → Stmt → Bool
assigns_of path from (stmt.Assign p v at) = counts v && leads p from path
assigns_of path from (stmt.Declare n unit v at) = counts_maybe v && same_path (n.name.0 ∷ from) path
assigns_of path from _ = false

-- The statement assigns something to the path.
abbrev pub assigns : List ℕ → Occ → Bool
assigns path o = assigns_of path o.path o.at.stmt

-- ---- the walk

-- What stands at a path: its type, if it is an instance, and the statements of the types at it and around it, inner ones
-- before outer ones, ancestors before descendants, in source order.
pub record Site : Type 0 where
  pub type : Option ℕ
  pub stmts : List Occ

abbrev pub site : List SourceFile → List ℕ → Option ℕ → List Occ → Site
site files path type around = record { type = type; stmts = occs files path type ++ around }

-- the type that the `new` of a name gives, among the statements of a type
abbrev pub made_in : List SourceFile → ℕ → Option ℕ → Option (ℕ × Named)
made_in files name type = first_of_all (flat_map (news files name) (flat_map (type_stmts files) (option_to_list type)))

abbrev pub made : List SourceFile → ℕ → Site → Option (ℕ × Named)
made files name s = made_in files name s.type

-- the types that replacements around put at a path, inner ones first
abbrev pub replacements : List SourceFile → List ℕ → Site → List (ℕ × Named)
replacements files path s = flat_map (replaces files path) s.stmts

-- from an instance to its member of a name: the type that `new` names, or the last replacement, which is the outermost
abbrev pub enter : List SourceFile → ℕ → List ℕ → Site → Site
enter files name path s = site files (name ∷ path)
    (option_map (λ new. (last_of new (replacements files (name ∷ path) s)).0) (made files name s)) s.stmts

abbrev pub walk : List SourceFile → ℕ → List ℕ → Site
walk files entry [] = site files [] (Some entry) []
walk files entry (name ∷ path) = enter files name path (walk files entry path)

-- the type at a path
abbrev pub type_at : List SourceFile → ℕ → List ℕ → Option ℕ
type_at files entry path = (walk files entry path).type

-- the last of a list
abbrev pub last : List Occ → Option Occ
last [] = None
last (o ∷ more) = Some (last_of o more)

-- the assignment that counts for a name of an instance: the last one
abbrev pub effective : List SourceFile → ℕ → ℕ → List ℕ → Option Occ
effective files entry name path = last (filter (assigns (name ∷ path)) (walk files entry path).stmts)
