use Rattle.std.proofs.Common.{◌-◌, ◌<◌, arith}
use Rattle.ato_expr.proofs.MarkLaws.{roots_closed, children_marked, not_marked, all_below}
use Rattle.ato_expr.proofs.marking.mark_below.Goals as goal

pub loop-first-init : goal.loop-first-init
loop-first-init c = record {
  first = c.requires.from;
  node = omega arith;
  closed = roots_closed c.args.table.now c.args.roots.now c.args.marks.now c.args.from c.args.end c.requires.above c.requires.roots;
}

pub mark_all-first-requires-clause-nodes : goal.mark_all-first-requires-clause-nodes
mark_all-first-requires-clause-nodes c = λ k h.
    let less : k < c.loop-first.node - 1 = c.requires.table.before (c.loop-first.node - 1) _ c.entry.ensures.entry k h in
    omega arith

pub loop-first-preserved-then-marks-node : goal.loop-first-preserved-then-marks-node
loop-first-preserved-then-marks-node c = record {
  first = omega arith;
  node = omega arith;
  closed =
      children_marked c.args.table.now c.args.roots.now c.loop-first.marks c.mark_all-first.new.marks c.loop-first.first c.mark_all-first.result
      c.loop-first.node (c.loop-first.node - 1) c.args.end _ c.requires.table (omega arith) c.loop-first.invariant.node
      c.loop-first.invariant.closed (record { from = omega arith; set = c.if-marks-node.true }) c.entry.ensures.entry c.mark_all-first.ensures.marked;
}

pub loop-first-preserved : goal.loop-first-preserved
loop-first-preserved c = record {
  first = c.loop-first.invariant.first;
  node = omega arith;
  closed =
      not_marked c.args.table.now c.args.roots.now c.loop-first.marks c.loop-first.first c.loop-first.node (c.loop-first.node - 1) c.args.end
      (omega arith) c.loop-first.invariant.closed c.if-marks-node.false;
}

pub returns-clause-marked : goal.returns-clause-marked
returns-clause-marked c =
    all_below c.args.table.now c.args.roots.now c.loop-first.marks c.loop-first.first c.loop-first.node c.args.end c.requires.table
    c.loop-first-test.false c.requires.above c.loop-first.invariant.closed
