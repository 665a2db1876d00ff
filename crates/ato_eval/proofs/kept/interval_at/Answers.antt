use Rattle.ato_rational.proofs.Order.{clash_ℚ}
use Rattle.ato_eval.proofs.KeptLaws.{in_order, kept_told, kept_within}
use Rattle.ato_eval.proofs.kept.interval_at.Goals as goal

pub ends_at-requires : goal.ends_at-requires
ends_at-requires c = kept_within c.requires

pub unreachable-requires : goal.unreachable-requires
unreachable-requires c = clash_ℚ c.in-None.ensures (in_order c.args.scratch.now.ends c.args.node _ _ c.ends_at.ensures c.requires)

pub returns : goal.returns
returns c =
    kept_told c.args.scratch.now.ends c.args.node _ _ c.in-Some.interval c.ends_at.ensures c.in-Some.ensures.0 c.in-Some.ensures.1 c.in-Some.ensures.2
