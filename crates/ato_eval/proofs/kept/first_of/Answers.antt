use Rattle.ato_eval.proofs.KeptLaws.{first_kept}
use Rattle.ato_eval.proofs.kept.first_of.Goals as goal

pub interval_at-requires : goal.interval_at-requires
interval_at-requires c = first_kept c.args.scratch.now.ends c.in-Some.node.now c.in-Some.later.now (rw c.in-Some.ensures.cases.0 at c.requires.kept)

pub returns : goal.returns
returns c = (c.in-Some.node.now, c.in-Some.ensures.cases.0, c.interval_at.ensures)
