use Rattle.ato_check.proofs.TreeLines.{at_one_point}
use Rattle.ato_check.proofs.trees.fails_is_right.Goals as goal

pub returns-then-point-eq1 : goal.returns-then-point-eq1
returns-then-point-eq1 c =
    let both = at_one_point c.args.slot.now c.args.rows.now c.args.point.now c.index-point-0.result c.fails_at.result c.if-point-eq1.true c.index-point-0.is c.fails_at.ensures in
    (λ h. (c.if-check-eq1.true, both.0 h), λ h. both.1 h.1)
