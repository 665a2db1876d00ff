use Rattle.std.proofs.Common.{◌⊎◌, ℕ, ◌≤◌, take}
use Rattle.std.specs.Prelude.{Contains, ◌↔◌}
use Rattle.ato_expr.specs.Scratches.{IsSet}
use Rattle.ato_expr.proofs.marking.mark_all.Given as goal

-- the nodes so far are marked too
abbrev pub invariant-loop-node : goal.invariant-loop-node
invariant-loop-node l = record {
  first : l.first ≤ l.from;
  marked : (k : ℕ) → IsSet l.first l.marks k ↔ (IsSet l.from l.fn.marks k ⊎ Contains (take l.node-index l.nodes) k);
}
