use Rattle.std.proofs.Common.{rules, ℕ, List, ◌<◌, get_or, arith, subst}
use Rattle.std.specs.Prelude.{Contains}
use Rattle.ato_expr.proofs.MarkLaws.{contains_at, above_more, whole}
use Rattle.ato_expr.proofs.marking.end_of.Goals as goal
use Rattle.ato_expr.proofs.marking.end_of.Goals.{then-end-root, else-end-root}

pub overflow_add-end : goal.overflow_add-end
overflow_add-end c =
    let there : get_or c.args.roots.now c.loop-root.root-index 0 < c.args.count = c.requires _ (contains_at c.args.roots.now c.loop-root.root-index c.loop-root-test.true) in
    search rules

pub loop-root-preserved : goal.loop-root-preserved
loop-root-preserved c =
    let there : get_or c.args.roots.now c.loop-root.root-index 0 < c.args.count = c.requires _ (contains_at c.args.roots.now c.loop-root.root-index c.loop-root-test.true) in
    elim c.if-end-root.branch [
      | then-end-root w ↦ record {
        above = above_more c.args.roots.now c.loop-root.root-index c.loop-root.end c.if-end-root.end c.loop-root-test.true c.loop-root.invariant.above (omega arith) (omega arith);
        within = omega arith;
      }
      | else-end-root w ↦ record {
        above = above_more c.args.roots.now c.loop-root.root-index c.loop-root.end c.if-end-root.end c.loop-root-test.true c.loop-root.invariant.above (omega arith) (omega arith);
        within = omega arith;
      }
    ]

pub returns-clause-above : goal.returns-clause-above
returns-clause-above c =
    let all = whole c.args.roots.now c.loop-root.root-index (omega arith) (omega arith) in
    subst (λ (xs : List ℕ). (r : ℕ) → Contains xs r → r < c.loop-root.end) all c.loop-root.invariant.above
