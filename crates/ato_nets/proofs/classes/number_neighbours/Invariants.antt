use Rattle.std.proofs.Common.{◌+◌, vec_len}
use Rattle.ato_nets.specs.Flooding.{unnumbered}
use Rattle.ato_nets.proofs.FloodLemmas.{IsLookedAt}
use Rattle.ato_nets.proofs.classes.number_neighbours.Given as goal

abbrev pub invariant-loop-next : goal.invariant-loop-next
invariant-loop-next l = IsLookedAt l.rows l.start l.point l.numbers l.stack.items l.next-index (unnumbered l.rows l.initial.numbers + vec_len l.initial.stack)
