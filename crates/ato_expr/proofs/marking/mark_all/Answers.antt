use Rattle.std.proofs.Common.{◌⊎◌, ℕ, List, ◌<◌, length, get_or, arith, refl, subst}
use Rattle.std.specs.Prelude.{Contains, ◌↔◌}
use Rattle.ato_expr.specs.Scratches.{IsSet}
use Rattle.ato_expr.proofs.MarkLaws.{contains_at, front_marked, whole}
use Rattle.ato_expr.proofs.marking.mark_all.Goals as goal

pub mark_one-first-requires-clause-node : goal.mark_one-first-requires-clause-node
mark_one-first-requires-clause-node c =
    let there : get_or c.args.nodes.now c.loop-node.node-index 0 < length c.args.marks.now = c.requires.nodes _ (contains_at c.args.nodes.now c.loop-node.node-index c.loop-node-test.true) in
    omega arith

pub loop-node-preserved : goal.loop-node-preserved
loop-node-preserved c = record {
  first = omega arith;
  marked =
      front_marked c.args.marks.now c.loop-node.marks c.mark_one-first.new.marks c.args.from c.loop-node.first c.mark_one-first.result
      c.args.nodes.now c.loop-node.node-index _ c.loop-node-test.true refl c.loop-node.invariant.marked c.mark_one-first.ensures.marked;
}

pub returns-clause-marked : goal.returns-clause-marked
returns-clause-marked c =
    let all = whole c.args.nodes.now c.loop-node.node-index (omega arith) (omega arith) in
    subst (λ (xs : List ℕ). (k : ℕ) → IsSet c.loop-node.first c.loop-node.marks k ↔ (IsSet c.args.from c.args.marks.now k ⊎ Contains xs k)) all c.loop-node.invariant.marked
