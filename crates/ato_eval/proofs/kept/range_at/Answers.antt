use Rattle.std.proofs.Common.{ap, refl, sym, ◌∙◌}
use Rattle.std.specs.Prelude.{Some}
use Rattle.std.proofs.lemmas.Option.{slice_get_read}
use Rattle.ato_frac.specs.declared.fraction.Frac.{Frac}
use Rattle.ato_interval.specs.Ends.{Ends}
use Rattle.ato_eval.proofs.KeptLaws.{narrowed_none, narrowed_some}
use Rattle.ato_eval.proofs.kept.range_at.Goals as goal

pub returns-in-Some : goal.returns-in-Some
returns-in-Some c =
    narrowed_some c.args.ranges.now c.args.high.now c.args.variable c.index-ranges-variable.result c.in-Some.is_high
    (slice_get_read c.args.ranges.now _ c.args.variable c.index-ranges-variable.result refl c.requires c.index-ranges-variable.is)
    (sym c.in-Some.ensures)
    ∙ ap (λ (i : Ends Frac). Some i) (sym c.end_of.ensures)

pub returns-in-None : goal.returns-in-None
returns-in-None c =
    narrowed_none c.args.ranges.now c.args.high.now c.args.variable c.index-ranges-variable.result
    (slice_get_read c.args.ranges.now _ c.args.variable c.index-ranges-variable.result refl c.requires c.index-ranges-variable.is)
    (sym c.in-None.ensures)
