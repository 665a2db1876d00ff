use Rattle.std.proofs.Common.{subst, sym, ◌++◌}
use Rattle.ato_ast.specs.declared.stmts.Stmt.{Stmt}
use Rattle.ato_elab.specs.Changes.{AreChanges}
use Rattle.ato_elab.specs.Waiting.{waits_of}
use Rattle.ato_elab.proofs.ways.Ways.read.Goals as goal

pub returns-in_ok-read_replace-in-Replace-clause-changes :
    goal.returns-in_ok-read_replace-in-Replace-clause-changes
returns-in_ok-read_replace-in-Replace-clause-changes c = λ are means ws was.
    subst (λ (s : Stmt). AreChanges (ws ++ waits_of c.args.program.now.files c.args.at.now.block s) c.read_replace.new.self.changes) (sym c.in-Replace.is)
    (c.in_ok-read_replace-in-Replace.ensures.changes are means c.in-Replace.field-2 ws was)
