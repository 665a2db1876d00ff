use Rattle.std.proofs.Common.{◌≡◌, drop}
use Rattle.std.specs.Prelude.{map}
use Rattle.ato_elab.specs.Late.{marks_from}
use Rattle.ato_elab.proofs.late.first_mark.Given as goal

abbrev pub invariant-loop-number : goal.invariant-loop-number
invariant-loop-number l = marks_from l.ground 0 (map (λ s. s.now) l.ground.stmts.now) ≡ marks_from l.ground l.number (map (λ s. s.now) (drop l.number l.ground.stmts.now))
