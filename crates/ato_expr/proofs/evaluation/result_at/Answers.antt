use Rattle.std.proofs.Common.{List, ◌<◌, length, sym, subst}
use Rattle.std.proofs.lemmas.Option.{slice_get_within}
use Rattle.ato_frac.specs.declared.fraction.Frac.{Frac}
use Rattle.ato_expr.specs.Held.{IsHeld}
use Rattle.ato_expr.proofs.HeldLaws.{answered}
use Rattle.ato_expr.proofs.evaluation.result_at.Goals as goal

pub operation-requires-clause-fits : goal.operation-requires-clause-fits
operation-requires-clause-fits c = c.entry-op.ensures.table.fits c.args.node _ c.entry-op.ensures.entry

pub operation-requires-clause-held : goal.operation-requires-clause-held
operation-requires-clause-held c = λ n h.
    let held = c.requires.held n _ c.entry-op.ensures.entry h in
    subst (λ (ends : List (Frac × Frac)). n < length ends) (sym c.ends.ensures) (slice_get_within c.args.scratch.now.ends n (held.label, held.other) held.at)

pub returns : goal.returns
returns c =
    answered c.args.table.now c.args.world.now c.ends.result.now c.args.node c.entry-op.result.0 c.entry-op.result.1.now c.operation.result c.entry-op.ensures.entry
    (λ n h. subst (λ (ends : List (Frac × Frac)). IsHeld c.args.table.now c.args.world.now ends n) (sym c.ends.ensures) (c.requires.held n _ c.entry-op.ensures.entry h))
    c.operation.ensures
