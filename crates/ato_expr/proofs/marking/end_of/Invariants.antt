use Rattle.std.proofs.Common.{ℕ, ◌<◌, ◌≤◌, take}
use Rattle.std.specs.Prelude.{Contains}
use Rattle.ato_expr.proofs.marking.end_of.Given as goal

-- the end is above the roots so far
abbrev pub invariant-loop-root : goal.invariant-loop-root
invariant-loop-root l = record {
  above : (r : ℕ) → Contains (take l.root-index l.roots) r → r < l.end;
  within : l.end ≤ l.count;
}
