use Rattle.std.proofs.Common.{◌<◌, length, arith}
use Rattle.std.proofs.lemmas.Option.{slice_get_within}
use Rattle.ato_expr.specs.Tables.{Entry}
use Rattle.ato_expr.proofs.TableLaws.{variables_more}
use Rattle.ato_expr.proofs.table.ExprTable.variables.Goals as goal

pub loop-node-preserved : goal.loop-node-preserved
loop-node-preserved c =
    let e : Entry = record { op = c.entry.result.0; children = c.entry.result.1.now } in
    record {
      above = variables_more c.args.self.now c.loop-node.node e c.loop-node.above c.past-above.result c.entry.ensures.entry c.loop-node.invariant.above c.past-above.ensures.more c.past-above.ensures.variable;
      least = λ n all. c.past-above.ensures.least n (c.loop-node.invariant.least n all) (λ v is. all c.loop-node.node v e c.entry.ensures.entry is);
    }

pub returns-clause-above : goal.returns-clause-above
returns-clause-above c = λ n v e at is.
    let there : n < length c.args.self.now = slice_get_within c.args.self.now n e at in
    c.loop-node.invariant.above n v e (omega arith) at is
