use Rattle.std.proofs.Common.{arith}
use Rattle.ato_expr.proofs.HeldLaws.{are_two, first_of, second_of}
use Rattle.ato_expr.proofs.operations.two.Goals as goal

pub value-requires : goal.value-requires
value-requires c = c.requires.held _ (first_of c.args.nodes.now (omega arith))

pub value-requires-2 : goal.value-requires-2
value-requires-2 c = c.requires.held _ (second_of c.args.nodes.now (omega arith))

pub returns : goal.returns
returns c = are_two c.args.ends.now c.args.nodes.now c.value.result c.value-2.result c.requires.count c.value.ensures c.value-2.ensures
