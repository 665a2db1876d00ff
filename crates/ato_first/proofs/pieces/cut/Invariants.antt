use Rattle.std.proofs.Common.{◌≡◌, false, take, ◌==◌}
use Rattle.std.specs.List.{list_any}
use Rattle.ato_first.proofs.pieces.cut.Given as goal

abbrev pub invariant-loop-at : goal.invariant-loop-at
invariant-loop-at l = list_any (λ b. b == l.mark) (take l.at l.bytes) ≡ false
