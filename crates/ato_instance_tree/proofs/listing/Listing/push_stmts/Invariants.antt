use Rattle.std.proofs.Common.{List, ◌++◌, map, take}
use Rattle.std.specs.List.{flat_map}
use Rattle.ato_ast.specs.declared.stmts.Stmt.{Stmt}
use Rattle.ato_instance_tree.specs.Kept.{stmt_of}
use Rattle.ato_instance_tree.specs.Members.{Member, stmt_members}
use Rattle.ato_instance_tree.specs.Seen.{AreDeclared, IsListed}
use Rattle.ato_instance_tree.proofs.listing.Listing.push_stmts.Given as goal

abbrev pub invariant-loop-statement : goal.invariant-loop-statement
invariant-loop-statement l = (all : List Stmt) → AreDeclared l.declared all → (ms : List Member) → IsListed ms l.fn.self
    → IsListed (ms ++ flat_map (stmt_members l.files all) (map stmt_of (take l.statement-index l.statements))) l.self
