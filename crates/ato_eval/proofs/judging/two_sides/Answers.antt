use Rattle.std.proofs.Common.{[], ◌∷◌}
use Rattle.ato_base.proofs.ClassLaws.{first, later}
use Rattle.ato_expr.specs.Tables.{root}
use Rattle.ato_eval.specs.Corners.{narrowed}
use Rattle.ato_eval.proofs.KeptLaws.{interval_kept, kept_has}
use Rattle.ato_eval.proofs.judging.two_sides.Goals as goal

pub interval_at-first-requires : goal.interval_at-first-requires
interval_at-first-requires c = interval_kept (c.in-Ok.ensures.done c.args.left (root (first c.args.left (c.args.right ∷ []))))

pub interval_at-second-requires : goal.interval_at-second-requires
interval_at-second-requires c = interval_kept (c.in-Ok.ensures.done c.args.right (root (later c.args.left c.args.right (c.args.right ∷ []) (first c.args.right []))))

pub returns-in-Ok-clause-sides : goal.returns-in-Ok-clause-sides
returns-in-Ok-clause-sides c = (
  kept_has c.args.table.now (narrowed c.args.ranges.now c.args.high.now) _ c.args.left c.interval_at-first.result
      (c.in-Ok.ensures.done c.args.left (root (first c.args.left (c.args.right ∷ []))))
      c.interval_at-first.ensures,
  kept_has c.args.table.now (narrowed c.args.ranges.now c.args.high.now) _ c.args.right c.interval_at-second.result
      (c.in-Ok.ensures.done c.args.right (root (later c.args.left c.args.right (c.args.right ∷ []) (first c.args.right []))))
      c.interval_at-second.ensures,
)
