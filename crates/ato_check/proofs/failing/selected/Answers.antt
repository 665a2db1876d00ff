use Rattle.std.proofs.Common.{refl}
use Rattle.ato_check.proofs.SelectedLaws.{between_selected}
use Rattle.ato_check.proofs.failing.selected.Goals as goal

pub returns-then-is_proper : goal.returns-then-is_proper
returns-then-is_proper c =
    let proper = c.if-is_proper.ensures.0 refl in
    between_selected c.args.t.now c.args.row.now proper.0 proper.1 c.between.result c.between.ensures
