use Rattle.ato_expr.specs.declared.ops.Op.TheVariants as ops
use Rattle.ato_eval.proofs.KeptLaws.{gives_told}
use Rattle.ato_eval.proofs.kept.opposite_of.Goals as goal

pub returns : goal.returns
returns c = λ ranges. gives_told ops.Neg ranges c.args.scratch.now.ends c.args.nodes.now _ c.opposite.result c.one-only.ensures (c.opposite.ensures ranges)
