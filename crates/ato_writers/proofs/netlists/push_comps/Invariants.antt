use Rattle.std.proofs.Common.{◌≡◌, ◌++◌, take}
use Rattle.std.specs.List.{flat_map}
use Rattle.ato_writers.specs.Netlists.{comp_text}
use Rattle.ato_writers.proofs.netlists.push_comps.Given as goal

abbrev pub invariant-loop-comp : goal.invariant-loop-comp
invariant-loop-comp l = l.out.items ≡ l.fn.out.items ++ flat_map comp_text (take l.comp-index l.comps)
