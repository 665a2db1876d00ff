use Rattle.std.proofs.Common.{◌≡◌, length}
use Rattle.ato_eval.proofs.wanted.want_all.Given as goal

-- the marks stay, and there is room as before
abbrev pub invariant-loop-node : goal.invariant-loop-node
invariant-loop-node l = record {
  ends : length l.scratch.ends ≡ length l.fn.scratch.ends;
  marks : l.scratch.marks ≡ l.fn.scratch.marks;
}
