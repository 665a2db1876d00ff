use Rattle.std.proofs.Common.{List, ◌++◌, map, subst, arith}
use Rattle.std.specs.List.{flat_map}
use Rattle.std.proofs.lemmas.List.{take_all}
use Rattle.ato_instance_tree.specs.declared.type_stmts.StmtAt.{StmtAt}
use Rattle.ato_instance_tree.specs.Kept.{stmt_of}
use Rattle.ato_instance_tree.specs.Members.{Member, stmt_members}
use Rattle.ato_instance_tree.specs.Seen.{IsListed}
use Rattle.ato_instance_tree.proofs.StepLaws.{behind_more}
use Rattle.ato_instance_tree.proofs.listing.Listing.push_stmts.Goals as goal

pub loop-statement-preserved : goal.loop-statement-preserved
loop-statement-preserved c = λ all are ms is.
    subst (λ (l : List Member). IsListed l c.push_stmt.new.self)
    (behind_more c.args.statements.now c.loop-statement.statement-index c.statement-item.result c.loop-statement-test.true c.statement-item.is (stmt_members c.args.files.now all) ms)
    (c.in_ok-push_stmt.ensures all are _ (c.loop-statement.invariant all are ms is))

pub returns : goal.returns
returns c = λ all are ms is.
    subst (λ (ss : List StmtAt). IsListed (ms ++ flat_map (stmt_members c.args.files.now all) (map stmt_of ss)) c.loop-statement.self)
    (take_all c.loop-statement.statement-index c.args.statements.now (omega arith)) (c.loop-statement.invariant all are ms is)
