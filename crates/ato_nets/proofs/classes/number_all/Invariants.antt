use Rattle.std.proofs.Common.{◌≡◌, []}
use Rattle.ato_nets.specs.Flooding.{IsFlooded}
use Rattle.ato_nets.proofs.classes.number_all.Given as goal

abbrev pub invariant-loop-start : goal.invariant-loop-start
invariant-loop-start l = IsFlooded l.rows l.start l.start l.numbers [] × (l.stack.items ≡ [])
