use Rattle.ato_eval.proofs.KeptLaws.{combined_told, rest_kept}
use Rattle.ato_eval.proofs.kept.combined.Goals as goal

pub chained-requires : goal.chained-requires
chained-requires c = rest_kept c.args.scratch.now.ends c.args.nodes.now _ _ c.first_of-first.ensures c.requires.kept

pub returns : goal.returns
returns c = λ ranges. combined_told c.args.chain ranges c.args.scratch.now.ends c.args.nodes.now _ _ c.chained.result c.first_of-first.ensures c.chained.ensures
