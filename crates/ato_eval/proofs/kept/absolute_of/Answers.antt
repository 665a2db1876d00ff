use Rattle.ato_expr.specs.declared.ops.Op.TheVariants as ops
use Rattle.ato_eval.proofs.KeptLaws.{op_told}
use Rattle.ato_eval.proofs.kept.absolute_of.Goals as goal

pub returns : goal.returns
returns c = λ ranges. op_told ops.Abs ranges c.args.scratch.now.ends c.args.nodes.now _ c.absolute.result c.one-only.ensures (c.absolute.ensures ranges)
