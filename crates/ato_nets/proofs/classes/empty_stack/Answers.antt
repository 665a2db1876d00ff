use Rattle.ato_nets.proofs.FloodLemmas.{popped_within}
use Rattle.ato_nets.proofs.classes.empty_stack.Goals as goal

pub number_neighbours-requires-clause-point_inside : goal.number_neighbours-requires-clause-point_inside
number_neighbours-requires-clause-point_inside c = popped_within c.pop.new.self.items c.in-Some.point c.loop-point.invariant c.in-Some.ensures.items
