use Rattle.std.proofs.Common.{◌≡◌, drop}
use Rattle.std.specs.Prelude.{map}
use Rattle.ato_elab.specs.Late.{params_in}
use Rattle.ato_elab.proofs.late_exprs.params_in.Given as goal

abbrev pub invariant-loop-path : goal.invariant-loop-path
invariant-loop-path l = params_in l.ground l.instance (map (λ p. p.now) l.list) ≡ params_in l.ground l.instance (map (λ p. p.now) (drop l.path-index l.list))
