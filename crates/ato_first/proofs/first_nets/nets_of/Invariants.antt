use Rattle.std.proofs.Common.{◌≡◌, take, map}
use Rattle.ato_first.specs.FirstGroups.{group_net}
use Rattle.ato_first.proofs.first_nets.nets_of.Given as goal

abbrev pub invariant-loop-group : goal.invariant-loop-group
invariant-loop-group l = l.nets ≡ map (group_net l.points l.of) (take l.group-index l.groups)
