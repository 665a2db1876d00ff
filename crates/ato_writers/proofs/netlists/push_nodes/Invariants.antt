use Rattle.std.proofs.Common.{◌≡◌, ◌++◌, take}
use Rattle.std.specs.List.{flat_map}
use Rattle.ato_writers.specs.Netlists.{node_text}
use Rattle.ato_writers.proofs.netlists.push_nodes.Given as goal

abbrev pub invariant-loop-pin : goal.invariant-loop-pin
invariant-loop-pin l = l.out.items ≡ l.fn.out.items ++ flat_map (node_text l.comps) (take l.pin-index l.pins)
