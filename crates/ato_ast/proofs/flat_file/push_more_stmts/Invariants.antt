use Rattle.std.proofs.Common.{◌≡◌, ◌++◌, take}
use Rattle.ato_base.specs.declared.keywords.Mark.TheVariants as mark
use Rattle.ato_ast.specs.PathKinds.{marked}
use Rattle.ato_ast.specs.StmtKinds.{stmt_kinds}
use Rattle.ato_ast.proofs.flat_file.push_more_stmts.Given as goal

abbrev pub invariant-loop-stmt : goal.invariant-loop-stmt
invariant-loop-stmt l = l.out ≡ l.fn.out ++ marked mark.Semicolon stmt_kinds (take l.stmt-index l.more)
