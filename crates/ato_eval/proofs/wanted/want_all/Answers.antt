use Rattle.std.proofs.Common.{◌<◌, length, get_or, arith}
use Rattle.ato_expr.proofs.MarkLaws.{contains_at}
use Rattle.ato_eval.proofs.wanted.want_all.Goals as goal

pub want-requires : goal.want-requires
want-requires c =
    let there : get_or c.args.nodes.now c.loop-node.node-index 0 < length c.args.scratch.now.ends = c.requires _ (contains_at c.args.nodes.now c.loop-node.node-index c.loop-node-test.true) in
    let same = c.loop-node.invariant.ends in
    omega arith
