-- Replacements on their way down. Only private functions have clauses in these words.
use Rattle.std.specs.Prelude.{◌≡◌, ℕ, Bool, ◌==◌, List, [], ◌∷◌, ◌++◌, map, Option, Some, if◌then◌else◌, option_to_list, is_none}
use Rattle.std.specs.List.{flat_map}
use Rattle.std.specs.Str.{bytes_eq as same_names}
use Rattle.ato_ast.specs.declared.names.Named.{Named}
use Rattle.ato_ast.specs.declared.stmts.Stmt.{Stmt}
use Rattle.ato_ast.specs.declared.stmts.Stmt.TheVariants as stmt
use Rattle.ato_files.specs.declared.program.SourceFile.{SourceFile}
use Rattle.ato_instance_tree.specs.Types.{Located, type_stmts, meant}
use Rattle.ato_instance_tree.specs.Walk.{replacements, walk, type_at}

-- A replacement that waits at an instance: the names that are left of its path, the outermost first, and the type with its name.
pub record Waits : Type 0 where
  pub rest : List Named
  pub to : ℕ × Named

-- the replacement that a statement of a block makes
abbrev pub waits_of : List SourceFile → ℕ → Stmt → List Waits
waits_of files block (stmt.Replace p type at) = if is_none p.pin then map (λ t. record { rest = p.steps; to = t }) (meant files block type) else []
waits_of files block _ = []

abbrev pub waits_in : List SourceFile → Located → List Waits
waits_in files l = waits_of files l.block l.stmt

-- those of a type's statements
abbrev pub own_waits : List SourceFile → Option ℕ → List Waits
own_waits files type = flat_map (waits_in files) (flat_map (type_stmts files) (option_to_list type))

-- a replacement with so many names left, of which the first one leads to the member of a name
abbrev pub passed : ℕ → ℕ × Named → List Named → List Waits
passed name to [] = []
passed name to (n ∷ more) = if n.name.0 == name then record { rest = more; to = to } ∷ [] else []

abbrev pub pass : ℕ → Waits → List Waits
pass name w = passed name w.to w.rest

-- those that go on at the member of a name
abbrev pub pass_all : ℕ → List Waits → List Waits
pass_all name ws = flat_map (pass name) ws

-- all that wait at the instance at a path: those of its own type, and then those that come from around it
abbrev pub waiting : List SourceFile → ℕ → List ℕ → List Waits
waiting files entry [] = own_waits files (Some entry)
waiting files entry (n ∷ path) = own_waits files (type_at files entry (n ∷ path)) ++ pass_all n (waiting files entry path)

-- the type of a replacement whose names that are left are these
abbrev pub ends_with : List ℕ → Waits → List (ℕ × Named)
ends_with names w = if same_names (map (λ n. n.name.0) w.rest) names then w.to ∷ [] else []

-- the types of replacements with no name left
abbrev pub ended : List Named → ℕ × Named → List (ℕ × Named)
ended [] to = to ∷ []
ended (n ∷ more) to = []

abbrev pub end : Waits → List (ℕ × Named)
end w = ended w.rest w.to

abbrev pub ends : List Waits → List (ℕ × Named)
ends ws = flat_map end ws

-- ---- laws

-- The types that replacements around put at a member are those of what waits and ends there.
abbrev pub ReplacementsEnd : Type 0
ReplacementsEnd = (files : List SourceFile) (entry name : ℕ) (path : List ℕ) → replacements files (name ∷ path) (walk files entry path) ≡ ends (pass_all name (waiting files entry path))
