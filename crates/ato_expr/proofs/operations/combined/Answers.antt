use Rattle.std.proofs.lemmas.Result.{err_from_is_err_and}
use Rattle.ato_expr.proofs.HeldLaws.{chain_begins, chain_goes_on, chain_refused}
use Rattle.ato_expr.proofs.MarkLaws.{contains_at}
use Rattle.ato_expr.proofs.operations.combined.Goals as goal

pub loop-node-init : goal.loop-node-init
loop-node-init c = chain_begins c.args.chain c.args.ends.now c.args.first c.value-total.result c.value-total.ensures

pub value-next-requires : goal.value-next-requires
value-next-requires c = c.requires.rest _ (contains_at c.args.rest.now c.loop-node.node-index c.loop-node-test.true)

pub loop-node-preserved : goal.loop-node-preserved
loop-node-preserved c =
    chain_goes_on c.args.chain c.args.ends.now c.args.first c.args.rest.now c.loop-node.node-index c.loop-node.total c.value-next.result c.in_ok-total.total
    c.loop-node-test.true c.loop-node.invariant c.value-next.ensures c.in_ok-total.ensures

pub returns-in_err-total : goal.returns-in_err-total
returns-in_err-total c =
    let p = err_from_is_err_and c.from_residual.result c.from_residual.ensures.1 in
    rw (p.1, p.2)
    (chain_refused c.args.chain c.args.ends.now c.args.first c.args.rest.now c.loop-node.node-index c.loop-node.total c.value-next.result c.in_err-total.field-0.0
    c.loop-node-test.true c.requires.rest c.loop-node.invariant c.value-next.ensures c.in_err-total.ensures)
