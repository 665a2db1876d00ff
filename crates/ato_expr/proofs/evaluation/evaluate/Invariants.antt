use Rattle.std.proofs.Common.{◌≡◌, ℕ, ◌<◌, length}
use Rattle.ato_expr.specs.Held.{IsHeld}
use Rattle.ato_expr.specs.Tables.{IsBelow}
use Rattle.ato_expr.proofs.evaluation.evaluate.Given as goal

-- the marks stay, and the fractions of the nodes below the roots are held before the counter
abbrev pub invariant-loop-node : goal.invariant-loop-node
invariant-loop-node l = record {
  marks : l.scratch.marks ≡ l.fn.scratch.marks;
  ends : length l.scratch.ends ≡ length l.fn.scratch.ends;
  held : (k : ℕ) → k < l.node → IsBelow l.table l.fn.roots k → IsHeld l.table l.world l.scratch.ends k;
}
