use Rattle.ato_expr.specs.declared.ops.Op.TheVariants as ops
use Rattle.ato_eval.proofs.KeptLaws.{op_told}
use Rattle.ato_eval.proofs.kept.product_of.Goals as goal

pub returns : goal.returns
returns c = λ ranges. op_told ops.Product ranges c.args.scratch.now.ends c.args.nodes.now _ c.product.result c.two-left.ensures (c.product.ensures ranges)
