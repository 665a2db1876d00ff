use Rattle.std.proofs.Common.{◌+◌, vec_len}
use Rattle.ato_nets.specs.Flooding.{IsFlooded, unnumbered}
use Rattle.ato_nets.proofs.classes.empty_stack.Given as goal

abbrev pub invariant-loop-point : goal.invariant-loop-point
invariant-loop-point l = IsFlooded l.rows (l.start + 1) l.start l.numbers l.stack.items

abbrev pub decreases-loop-point : goal.decreases-loop-point
decreases-loop-point l = unnumbered l.rows l.numbers + vec_len l.stack
