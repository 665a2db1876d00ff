use Rattle.std.proofs.Common.{◌≡◌, ◌++◌, map, take}
use Rattle.ato_elab.specs.Growing.{occ_of}
use Rattle.ato_elab.proofs.growing.push_occurrences.Given as goal

abbrev pub invariant-loop-at : goal.invariant-loop-at
invariant-loop-at l = l.occurrences ≡ l.fn.occurrences ++ map (occ_of l.number) (take l.at-index l.statements)
