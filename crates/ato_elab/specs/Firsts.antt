-- That the first mark of a tree is the first fault of its paths. Only laws speak in these words.
use Rattle.std.specs.Prelude.{◌≡◌, ℕ, List, Option, Some, map}
use Rattle.std.specs.Borrow.{Bor}
use Rattle.ato_ast.specs.declared.stmts.Stmt.{Stmt}
use Rattle.ato_files.specs.declared.program.SourceFile.{SourceFile}
use Rattle.ato_files.specs.Programs.{NamesDiffer}
use Rattle.ato_instance_tree.specs.declared.tree.Late.{Late}
use Rattle.ato_instance_tree.specs.Order.{occurrences}
use Rattle.ato_instance_tree.specs.PathFaults.{keys_of, path_fault}
use Rattle.ato_instance_tree.specs.Trees.{first_said}
use Rattle.ato_elab.specs.declared.built.Built.{Built}
use Rattle.ato_elab.specs.declared.late_ground.Ground.{Ground}
use Rattle.ato_elab.specs.Built.{IsBuilt}
use Rattle.ato_elab.specs.Landing.{IsGround}
use Rattle.ato_elab.specs.Listing.{stmt_of}
use Rattle.ato_elab.specs.Telling.{IsFirstLate}

-- The statements of a built tree's occurrences are those of the project's.
abbrev pub StmtsAreWalked : Type 0
StmtsAreWalked = (files : List SourceFile) (names : List (List ℕ)) (entry : ℕ) (built : Built) (stmts : List (Bor Stmt)) → IsBuilt files names entry built
    → map (λ s. Some s.now) stmts ≡ map (stmt_of files) built.occurrences → map (λ s. s.now) stmts ≡ map (λ o. o.at.stmt) (occurrences files entry)

-- The fault of the first mark is the first fault of paths.
abbrev pub FirstMarksAreFaults : Type 0
FirstMarksAreFaults = (names : List (List ℕ)) (entry : ℕ) (g : Ground) (late : Option Late) → NamesDiffer names → IsGround names entry g → IsFirstLate names g late
    → first_said late ≡ path_fault g.files.now entry (keys_of names)
