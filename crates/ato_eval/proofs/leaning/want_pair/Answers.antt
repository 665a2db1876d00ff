use Rattle.std.proofs.Common.{arith}
use Rattle.ato_expr.proofs.MarkLaws.{contains_at}
use Rattle.ato_eval.proofs.leaning.want_pair.Goals as goal

pub want_two-requires-clause-left : goal.want_two-requires-clause-left
want_two-requires-clause-left c = c.requires.nodes _ (contains_at c.args.nodes.now 0 (omega arith))

pub want_two-requires-clause-right : goal.want_two-requires-clause-right
want_two-requires-clause-right c = c.requires.nodes _ (contains_at c.args.nodes.now 1 (omega arith))
