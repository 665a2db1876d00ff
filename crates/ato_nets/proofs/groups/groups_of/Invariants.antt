use Rattle.ato_nets.proofs.GroupLemmas.{Grouped}
use Rattle.ato_nets.proofs.groups.groups_of.Given as goal

abbrev pub invariant-loop-point : goal.invariant-loop-point
invariant-loop-point l = Grouped l.of l.first l.point l.groups l.places.items
