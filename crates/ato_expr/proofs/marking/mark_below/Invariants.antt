use Rattle.std.proofs.Common.{◌≤◌}
use Rattle.ato_expr.proofs.MarkLaws.{Closed}
use Rattle.ato_expr.proofs.marking.mark_below.Given as goal

-- what is marked is below the roots, the roots are marked, and so are the children of marked nodes from the counter on
abbrev pub invariant-loop-first : goal.invariant-loop-first
invariant-loop-first l = record {
  first : l.first ≤ l.end;
  node : l.node ≤ l.end;
  closed : Closed l.table l.roots l.first l.marks l.node l.end;
}

abbrev pub decreases-loop-first : goal.decreases-loop-first
decreases-loop-first l = l.node
