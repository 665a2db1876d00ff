use Rattle.std.proofs.lemmas.Result.{err_from_is_err_and}
use Rattle.ato_eval.proofs.KeptLaws.{chain_on, chain_stops, first_kept}
use Rattle.ato_eval.proofs.kept.chained.Goals as goal

pub interval_at-next-requires : goal.interval_at-next-requires
interval_at-next-requires c =
    first_kept c.args.scratch.now.ends c.in-Some.node.now c.in-Some.later.now (rw c.in-Some.ensures.cases.0 at c.rest.invariant).kept

pub returns-in_err-total : goal.returns-in_err-total
returns-in_err-total c =
    let p = err_from_is_err_and c.from_residual.result c.from_residual.ensures.1 in
    rw (p.1, p.2) (
      c.in_err-total.ensures.0,
      chain_stops c.args.chain c.args.scratch.now.ends c.rest.total c.interval_at-next.result c.in-Some.node.now c.in-Some.later.now c.args.first c.args.nodes.now
          (rw c.in-Some.ensures.cases.0 at c.rest.invariant)
          c.interval_at-next.ensures
          c.in_err-total.ensures.1,
    )

pub rest-preserved : goal.rest-preserved
rest-preserved c =
    chain_on c.args.chain c.args.scratch.now.ends c.rest.total c.interval_at-next.result c.in_ok-total.total c.in-Some.node.now c.in-Some.later.now c.args.first c.args.nodes.now
    (rw c.in-Some.ensures.cases.0 at c.rest.invariant)
    c.interval_at-next.ensures
    c.in_ok-total.ensures
