use Rattle.std.proofs.Common.{[]}
use Rattle.ato_eval.specs.Corners.{narrowed}
use Rattle.ato_eval.proofs.PassLaws.{all_kept, answered}
use Rattle.ato_eval.proofs.pass.interval_of.Goals as goal

pub operation-requires-clause-fits : goal.operation-requires-clause-fits
operation-requires-clause-fits c = c.entry-op.ensures.table.fits c.args.node _ c.entry-op.ensures.entry

pub operation-requires-clause-kept : goal.operation-requires-clause-kept
operation-requires-clause-kept c =
    all_kept c.args.table.now [] (narrowed c.args.ranges.now c.args.high.now) c.args.scratch.now.ends c.entry-op.result.1.now (λ n h. c.requires.kept n _ c.entry-op.ensures.entry h)

pub returns : goal.returns
returns c =
    answered c.args.table.now [] (narrowed c.args.ranges.now c.args.high.now) c.args.scratch.now.ends c.args.node c.entry-op.result.0 c.entry-op.result.1.now c.operation.result
    c.entry-op.ensures.entry
    (λ n h. c.requires.kept n _ c.entry-op.ensures.entry h)
    c.operation.ensures
