use Rattle.std.proofs.Common.{ℕ, List, ◌+◌, ◌<◌, length, length-set, ap, sym, ◌∙◌, subst, arith}
use Rattle.std.proofs.lemmas.Result.{err_from_is_err_and}
use Rattle.ato_frac.specs.declared.fraction.Frac.{Frac}
use Rattle.ato_eval.specs.Corners.{narrowed}
use Rattle.ato_eval.specs.Kept.{IsKept}
use Rattle.ato_expr.specs.Scratches.{Notes}
use Rattle.ato_expr.specs.Tables.{IsBelow}
use Rattle.ato_eval.proofs.PassLaws.{node_below, held_still, all_held, held_more, children_held, stops_here}
use Rattle.ato_eval.proofs.pass.evaluate.Goals as goal
use Rattle.ato_eval.proofs.pass.evaluate.Goals.{then-is_marked+in_ok-interval, else-is_marked}

pub interval_of-requires-clause-kept : goal.interval_of-requires-clause-kept
interval_of-requires-clause-kept c =
    let below =
    node_below c.args.table.now c.args.roots.now (narrowed c.args.ranges.now c.args.high.now) c.args.stretch c.args.scratch.now.marks c.loop-node.scratch.marks c.requires.marks
    c.loop-node.invariant.marks c.loop-node.node (omega arith) (omega arith) (sym c.is_marked.ensures ∙ c.if-is_marked.true)
    in
    children_held c.args.table.now c.args.roots.now (narrowed c.args.ranges.now c.args.high.now) c.loop-node.scratch.ends c.loop-node.node c.count-count.ensures.table below c.loop-node.invariant.held

pub returns-in_err-interval-clause-done : goal.returns-in_err-interval-clause-done
returns-in_err-interval-clause-done c =
    let p = err_from_is_err_and c.from_residual.result c.from_residual.ensures.1 in
    let below =
    node_below c.args.table.now c.args.roots.now (narrowed c.args.ranges.now c.args.high.now) c.args.stretch c.args.scratch.now.marks c.loop-node.scratch.marks c.requires.marks
    c.loop-node.invariant.marks c.loop-node.node (omega arith) (omega arith) (sym c.is_marked.ensures ∙ c.if-is_marked.true)
    in
    rw (p.1, p.2) (stops_here c.args.table.now c.args.roots.now (narrowed c.args.ranges.now c.args.high.now) c.loop-node.scratch.ends c.loop-node.node _ below c.in_err-interval.ensures c.loop-node.invariant.held)

pub loop-node-preserved : goal.loop-node-preserved
loop-node-preserved c =
    elim c.if-is_marked.branch [
      | then-is_marked+in_ok-interval w ↦ record {
        marks = ap (λ (n : Notes). n.marks) w.scratch-is ∙ w.put.ensures.marks ∙ c.loop-node.invariant.marks;
        ends =
            ap (λ (n : Notes). length n.ends) w.scratch-is ∙ ap length w.put.ensures.ends
            ∙ length-set c.loop-node.scratch.ends c.loop-node.node (w.low.result, w.high.result) ∙ c.loop-node.invariant.ends;
        held =
            subst (λ (es : List (Frac × Frac)). (k : ℕ) → k < c.loop-node.node + 1 → IsBelow c.args.table.now c.args.roots.now k → IsKept c.args.table.now (narrowed c.args.ranges.now c.args.high.now) es k)
            (sym (ap (λ (n : Notes). n.ends) w.scratch-is ∙ w.put.ensures.ends))
            (held_more c.args.table.now c.args.roots.now (narrowed c.args.ranges.now c.args.high.now) c.loop-node.scratch.ends c.loop-node.node w.in_ok-interval.interval w.low.result w.high.result (omega arith) w.in_ok-interval.ensures w.low.ensures.proper w.low.ensures.end w.high.ensures.end c.loop-node.invariant.held);
      }
      | else-is_marked w ↦ record {
        marks = ap (λ (n : Notes). n.marks) w.scratch-is ∙ c.loop-node.invariant.marks;
        ends = ap (λ (n : Notes). length n.ends) w.scratch-is ∙ c.loop-node.invariant.ends;
        held =
            subst (λ (es : List (Frac × Frac)). (k : ℕ) → k < c.loop-node.node + 1 → IsBelow c.args.table.now c.args.roots.now k → IsKept c.args.table.now (narrowed c.args.ranges.now c.args.high.now) es k)
            (sym (ap (λ (n : Notes). n.ends) w.scratch-is))
            (held_still c.args.table.now c.args.roots.now (narrowed c.args.ranges.now c.args.high.now) c.args.stretch c.args.scratch.now.marks c.loop-node.scratch.marks c.requires.marks
            c.loop-node.invariant.marks c.loop-node.scratch.ends c.loop-node.node (sym c.is_marked.ensures ∙ w.if-is_marked.false) c.loop-node.invariant.held);
      }
    ]

pub returns-clause-done : goal.returns-clause-done
returns-clause-done c =
    all_held c.args.table.now c.args.roots.now (narrowed c.args.ranges.now c.args.high.now) c.args.stretch c.args.scratch.now.marks c.loop-node.scratch.marks c.requires.marks
    c.loop-node.invariant.marks c.loop-node.scratch.ends c.loop-node.node (omega arith) c.loop-node.invariant.held
