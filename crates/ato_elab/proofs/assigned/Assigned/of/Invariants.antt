use Rattle.std.proofs.Common.{◌≡◌, ℕ, None, drop}
use Rattle.std.specs.Prelude.{map}
use Rattle.ato_elab.specs.Assigned.{held_by, picked}
use Rattle.ato_elab.proofs.assigned.Assigned.of.Given as goal

abbrev pub invariant-loop-number : goal.invariant-loop-number
invariant-loop-number l = (instance name : ℕ) → picked l.built instance name 0 (map (λ s. s.now) l.stmts) None
    ≡ picked l.built instance name l.number (map (λ s. s.now) (drop l.number l.stmts)) (held_by l.assigned instance name)
