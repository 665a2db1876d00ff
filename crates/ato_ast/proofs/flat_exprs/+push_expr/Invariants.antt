use Rattle.std.proofs.Common.{◌≡◌, ◌++◌, take}
use Rattle.ato_ast.specs.ExprKinds.{signed_kinds, scaled_kinds, listed_kinds}
use Rattle.ato_ast.proofs.flat_exprs.+push_expr.Given as goal

abbrev pub invariant-push_signed-loop-sign : goal.invariant-push_signed-loop-sign
invariant-push_signed-loop-sign l = l.out ≡ l.fn.out ++ signed_kinds (take l.sign-index l.more)

abbrev pub invariant-push_scaled-loop-scale : goal.invariant-push_scaled-loop-scale
invariant-push_scaled-loop-scale l = l.out ≡ l.fn.out ++ scaled_kinds (take l.scale-index l.more)

abbrev pub invariant-push_listed-loop-operand : goal.invariant-push_listed-loop-operand
invariant-push_listed-loop-operand l = l.out ≡ l.fn.out ++ listed_kinds (take l.operand-index l.more)
