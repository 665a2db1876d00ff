use Rattle.std.proofs.Common.{Bool, slice_set, ap, ap₂, sym, ◌∙◌}
use Rattle.ato_frac.specs.declared.fraction.Frac.{Frac}
use Rattle.ato_eval.specs.Wanted.{turned}
use Rattle.ato_eval.proofs.wanted.want.Goals as goal

pub returns-then-is_high-clause-ends : goal.returns-then-is_high-clause-ends
returns-then-is_high-clause-ends c = (
  c.wanted-interval.result.0,
  c.wanted-interval.result.1,
  c.wanted-interval.ensures,
  c.put.ensures.ends ∙ ap₂ (λ (x y : Frac). slice_set c.args.scratch.now.ends c.args.node (x, y)) c.high.ensures.end c.low.ensures.end
      ∙ ap (λ (b : Bool). slice_set c.args.scratch.now.ends c.args.node (turned b c.wanted-interval.result.0)) (sym c.if-is_high.true),
)

pub returns-else-is_high-clause-ends : goal.returns-else-is_high-clause-ends
returns-else-is_high-clause-ends c = (
  c.wanted-interval.result.0,
  c.wanted-interval.result.1,
  c.wanted-interval.ensures,
  c.put-else-is_high.ensures.ends ∙ ap₂ (λ (x y : Frac). slice_set c.args.scratch.now.ends c.args.node (x, y)) c.low-else-is_high.ensures.end c.high-else-is_high.ensures.end
      ∙ ap (λ (b : Bool). slice_set c.args.scratch.now.ends c.args.node (turned b c.wanted-interval.result.0)) (sym c.if-is_high.false),
)
