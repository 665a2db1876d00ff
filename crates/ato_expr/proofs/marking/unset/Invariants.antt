use Rattle.std.proofs.Common.{◌≡◌, ◌⊎◌, ℕ, ◌<◌, ◌≤◌, get_or, false}
use Rattle.ato_expr.proofs.marking.unset.Given as goal

-- the marks from the first on and before the counter are unset, and the others are as they were
abbrev pub invariant-loop-node : goal.invariant-loop-node
invariant-loop-node l = record {
  unset : (k : ℕ) → l.from ≤ k → k < l.node → get_or l.marks k false ≡ false;
  kept : (k : ℕ) → (k < l.from) ⊎ (l.node ≤ k) → get_or l.marks k false ≡ get_or l.fn.marks k false;
}
