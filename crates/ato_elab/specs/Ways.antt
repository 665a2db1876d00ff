-- What is kept of the types that an instance's type makes and replaces. Only private functions have clauses in these words.
use Rattle.std.specs.Prelude.{◌≡◌, ℕ, nat_eq, List, [], ◌++◌, map, Option, Some}
use Rattle.std.specs.List.{flat_map}
use Rattle.indexmap.specs.IndexMap.{get}
use Rattle.ato_ast.specs.declared.names.Named.{Named}
use Rattle.ato_files.specs.declared.program.SourceFile.{SourceFile}
use Rattle.ato_files.specs.Lists.{first_of_all}
use Rattle.ato_instance_tree.specs.declared.type_stmts.StmtAt.{StmtAt}
use Rattle.ato_instance_tree.specs.Kept.{located_of}
use Rattle.ato_instance_tree.specs.Types.{Located}
use Rattle.ato_instance_tree.specs.Walk as walk
use Rattle.ato_elab.specs.declared.changes.Change.{Change}
use Rattle.ato_elab.specs.declared.news.News.{News}
use Rattle.ato_elab.specs.declared.ways.Ways.{Ways}
use Rattle.ato_elab.specs.Waiting.{waits_in}
use Rattle.ato_elab.specs.Changes.{seen, AreChanges}

-- the type that is kept for a name, and its name
abbrev pub kept : News → ℕ → Option (ℕ × Named)
kept news name = get nat_eq news.types name

-- For each name the first type that these statements give it is kept.
abbrev pub AreNews : List SourceFile → List Located → News → Type 0
AreNews files ls news = (name : ℕ) → kept news name ≡ first_of_all (flat_map (walk.news files name) ls)

-- The types are those of a type's statements, and what waits are its replacements and then these.
pub record AreWays (files : List SourceFile) (statements : List StmtAt) (from : List Change) (ways : Ways) : Type 0 where
  pub news : AreNews files (map located_of statements) ways.news
  pub changes : AreChanges (flat_map (waits_in files) (map located_of statements) ++ map seen from) ways.changes
