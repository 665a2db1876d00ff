use Rattle.std.proofs.Common.{◌≡◌, ◌++◌, ◌+◌, drop}
use Rattle.ato_writers.specs.Netlists.{nets_text}
use Rattle.ato_writers.proofs.netlists.push_nets.Given as goal

abbrev pub invariant-loop-at : goal.invariant-loop-at
invariant-loop-at l = l.out.items ++ nets_text l.comps (l.at + 1) (drop l.at l.nets) ≡ l.fn.out.items ++ nets_text l.comps 1 l.nets
