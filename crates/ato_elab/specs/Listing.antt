-- The statements of occurrences. Only private functions have clauses in these words.
use Rattle.std.specs.Prelude.{Option, List}
use Rattle.ato_ast.specs.declared.stmts.Stmt.{Stmt}
use Rattle.ato_files.specs.declared.program.SourceFile.{SourceFile}
use Rattle.ato_instance_tree.specs.declared.tree.Occurrence.{Occurrence}
use Rattle.ato_instance_tree.specs.Targets.{stmt_at}

-- the statement of an occurrence
abbrev pub stmt_of : List SourceFile → Occurrence → Option Stmt
stmt_of files o = stmt_at files o.block o.line o.part
