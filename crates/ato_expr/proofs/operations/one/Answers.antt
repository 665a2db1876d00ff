use Rattle.std.proofs.Common.{arith}
use Rattle.ato_expr.proofs.HeldLaws.{are_one, first_of}
use Rattle.ato_expr.proofs.operations.one.Goals as goal

pub value-requires : goal.value-requires
value-requires c = c.requires.held _ (first_of c.args.nodes.now (omega arith))

pub returns : goal.returns
returns c = are_one c.args.ends.now c.args.nodes.now c.value.result c.requires.count c.value.ensures
