-- That the assignments that are held are those that count. Only laws speak in these words.
use Rattle.std.specs.Prelude.{◌≡◌, ℕ, List, map, None}
use Rattle.ato_ast.specs.declared.stmts.Stmt.{Stmt}
use Rattle.ato_files.specs.declared.program.SourceFile.{SourceFile}
use Rattle.ato_instance_tree.specs.Order.{occurrences}
use Rattle.ato_elab.specs.declared.assigned.Assigned.{Assigned}
use Rattle.ato_elab.specs.declared.built.Built.{Built}
use Rattle.ato_elab.specs.Assigned.{held_by, picked}
use Rattle.ato_elab.specs.Landing.{AreAssigned}
use Rattle.ato_elab.specs.Standing.{IsReady}

-- What one pass over the statements of all occurrences holds are the assignments that count.
abbrev pub AssignmentsCount : Type 0
AssignmentsCount = (files : List SourceFile) (names : List (List ℕ)) (entry : ℕ) (built : Built) (ss : List Stmt) (a : Assigned) → IsReady files names entry built
    → ss ≡ map (λ o. o.at.stmt) (occurrences files entry) → ((instance name : ℕ) → held_by a instance name ≡ picked built instance name 0 ss None) → AreAssigned files entry a
