use Rattle.ato_eval.proofs.KeptLaws.{one_told}
use Rattle.ato_eval.proofs.kept.one.Goals as goal

pub returns : goal.returns
returns c = one_told c.args.scratch.now.ends c.args.nodes.now _ _ c.first_of-first.ensures c.requires.count
