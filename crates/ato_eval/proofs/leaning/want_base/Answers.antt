use Rattle.std.proofs.Common.{arith}
use Rattle.ato_expr.proofs.MarkLaws.{contains_at}
use Rattle.ato_eval.proofs.leaning.want_base.Goals as goal

pub want_one-requires : goal.want_one-requires
want_one-requires c = c.requires.nodes _ (contains_at c.args.nodes.now 0 (omega arith))
