use Rattle.std.proofs.Common.{ℕ, List, ◌++◌, map, ap, ◌∙◌}
use Rattle.ato_ast.specs.declared.stmts.Stmt.{Stmt}
use Rattle.ato_ast.specs.declared.blocks.Line.{Line}
use Rattle.ato_instance_tree.specs.Kept.{located_of}
use Rattle.ato_instance_tree.specs.Types.{Located, line_stmts}
use Rattle.ato_instance_tree.proofs.StepLaws.{lines_more}
use Rattle.ato_instance_tree.proofs.type_stmts.push_lines.Goals as goal

pub loop-number-preserved : goal.loop-number-preserved
loop-number-preserved c = lines_more c.args.block (λ (x : Line Stmt). x.parts) c.args.lines.now c.loop-number.number c.index-lines-number.result (map located_of c.args.found.now)
    (map located_of c.loop-number.found) (map located_of c.push_line.new.found) c.loop-number-test.true c.index-lines-number.is c.loop-number.invariant
    (c.in_ok-push_line.ensures ∙ ap (λ (l : List Located). map located_of c.loop-number.found ++ l)
    (ap (λ (n : ℕ). line_stmts c.args.block (n, c.as_slice.result.now)) c.in_ok-small.ensures ∙ ap (λ (ps : List Stmt). line_stmts c.args.block (c.loop-number.number, ps)) c.as_slice.ensures))
