use Rattle.std.proofs.Common.{◌≡◌, ℕ, ◌<◌, length}
use Rattle.ato_eval.specs.Corners.{narrowed}
use Rattle.ato_eval.specs.Kept.{IsKept}
use Rattle.ato_expr.specs.Tables.{IsBelow}
use Rattle.ato_eval.proofs.pass.evaluate.Given as goal

-- the marks stay, and the intervals of the nodes below the roots are held before the counter
abbrev pub invariant-loop-node : goal.invariant-loop-node
invariant-loop-node l = record {
  marks : l.scratch.marks ≡ l.fn.scratch.marks;
  ends : length l.scratch.ends ≡ length l.fn.scratch.ends;
  held : (k : ℕ) → k < l.node → IsBelow l.table l.fn.roots k → IsKept l.table (narrowed l.ranges l.high) l.scratch.ends k;
}
