use Rattle.ato_eval.proofs.KeptLaws.{later_count, rest_kept, two_told}
use Rattle.ato_eval.proofs.kept.two.Goals as goal

pub one-second-requires-clause-count : goal.one-second-requires-clause-count
one-second-requires-clause-count c = later_count c.args.scratch.now.ends c.args.nodes.now _ _ c.first_of-first.ensures c.requires.count

pub one-second-requires-clause-kept : goal.one-second-requires-clause-kept
one-second-requires-clause-kept c = rest_kept c.args.scratch.now.ends c.args.nodes.now _ _ c.first_of-first.ensures c.requires.kept

pub returns : goal.returns
returns c = two_told c.args.scratch.now.ends c.args.nodes.now _ _ _ c.first_of-first.ensures c.one-second.ensures
