use Rattle.std.proofs.Common.{take}
use Rattle.std.specs.List.{All}
use Rattle.ato_cert.specs.Justified.{LiesInTarget}
use Rattle.std.proofs.Common.{◌≡◌}
use Rattle.ato_search.proofs.searching.first_in_target.Given as goal

abbrev pub invariant-loop-row : goal.invariant-loop-row
invariant-loop-row l = All (λ row. ¬ LiesInTarget l.slot row) (take l.row-index l.row-items) × (l.row-items ≡ l.slot.rows)
