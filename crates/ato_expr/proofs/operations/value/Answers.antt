use Rattle.ato_expr.proofs.HeldLaws.{at_place}
use Rattle.ato_expr.proofs.operations.value.Goals as goal

pub returns : goal.returns
returns c = at_place c.args.ends.now c.args.node c.index-ends-node.result c.requires
