use Rattle.std.proofs.Common.{◌≡◌, ◌++◌, take}
use Rattle.ato_base.specs.declared.keywords.Mark.TheVariants as mark
use Rattle.ato_ast.specs.PathKinds.{marked}
use Rattle.ato_ast.specs.ExprKinds.{literal_kinds}
use Rattle.ato_ast.proofs.flat_stmts.push_more_literals.Given as goal

abbrev pub invariant-loop-literal : goal.invariant-loop-literal
invariant-loop-literal l = l.out ≡ l.fn.out ++ marked mark.Bar literal_kinds (take l.literal-index l.more)
