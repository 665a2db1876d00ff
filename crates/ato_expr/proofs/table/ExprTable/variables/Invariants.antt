use Rattle.std.proofs.Common.{◌≡◌, ℕ, ◌<◌, ◌≤◌}
use Rattle.std.specs.Prelude.{slice_get, Some}
use Rattle.ato_expr.specs.declared.ops.Op.TheVariants as ops
use Rattle.ato_expr.specs.Tables.{AreVariablesBelow, Entry}
use Rattle.ato_expr.proofs.table.ExprTable.variables.Given as goal

-- the variables of the nodes so far are below, and no other number than the least
abbrev pub invariant-loop-node : goal.invariant-loop-node
invariant-loop-node l = record {
  above : (k v : ℕ) (e : Entry) → k < l.node → slice_get l.self k ≡ Some e → e.op ≡ ops.Var v → v < l.above;
  least : (number : ℕ) → AreVariablesBelow l.self number → l.above ≤ number;
}
