use Rattle.std.proofs.Common.{◌||◌, [], ◌∷◌, sym, ap, ◌∙◌}
use Rattle.ato_instance_tree.specs.Members.{is_declared}
use Rattle.ato_instance_tree.proofs.StepLaws.{declared_more}
use Rattle.ato_instance_tree.proofs.declared_names.declared_names.Goals as goal

pub loop-statement-preserved : goal.loop-statement-preserved
loop-statement-preserved c = λ n.
    c.in_ok-note_stmt.ensures n ∙ ap (λ b. b || is_declared (c.statement-item.result.stmt.now ∷ []) n) (c.loop-statement.invariant n)
    ∙ sym (declared_more c.args.statements.now c.loop-statement.statement-index c.statement-item.result c.loop-statement-test.true c.statement-item.is n)
