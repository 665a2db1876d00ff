use Rattle.std.proofs.Common.{◌∙◌, ap, sym}
use Rattle.std.specs.Str.{bytes_eq}
use Rattle.ato_build.proofs.ProblemLemmas.{under_more}
use Rattle.ato_build.proofs.problems.cell_under.Goals as goal

pub loop-at-preserved : goal.loop-at-preserved
loop-at-preserved c =
    under_more c.args.columns.now c.args.cells.now c.args.name.now c.loop-at.at c.index-columns-at.result c.loop-at-test.true c.index-columns-at.is
    (ap (λ t. bytes_eq t c.args.name.now) (sym c.as_str.ensures) ∙ sym c.eq.ensures ∙ c.if-eq.false) ∙ c.loop-at.invariant
