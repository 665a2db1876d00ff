use Rattle.ato_eval.proofs.ReachLaws.{not_wide, wide_told}
use Rattle.ato_eval.proofs.reaching.has_corner.Goals as goal

pub returns-in-Ok-clause-wide : goal.returns-in-Ok-clause-wide
returns-in-Ok-clause-wide c = not_wide c.args.table.now c.args.ranges.now c.args.relation.now c.in-Ok.ensures.stops

pub returns-in-Err-clause-wide : goal.returns-in-Err-clause-wide
returns-in-Err-clause-wide c = wide_told c.args.table.now c.args.ranges.now c.args.relation.now c.is_wide.result c.in-Err.reason c.in-Err.ensures.stops c.is_wide.ensures
