use Rattle.std.proofs.Common.{◌≡◌, ◌≤◌, length}
use Rattle.ato_eval.proofs.leaning.lean_all.Given as goal

-- the marks stay, and there is room as before
abbrev pub invariant-loop-node : goal.invariant-loop-node
invariant-loop-node l = record {
  node : l.node ≤ l.stretch.end;
  marks : l.scratch.marks ≡ l.fn.scratch.marks;
  ends : length l.scratch.ends ≡ length l.fn.scratch.ends;
  high : length l.high ≡ length l.fn.high;
}

abbrev pub decreases-loop-node : goal.decreases-loop-node
decreases-loop-node l = l.node
