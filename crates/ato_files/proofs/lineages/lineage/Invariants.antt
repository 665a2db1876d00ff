use Rattle.ato_files.proofs.ClimbLemmas.{IsClimb}
use Rattle.ato_files.proofs.lineages.lineage.Given as goal

abbrev pub invariant-loop : goal.invariant-loop
invariant-loop l = IsClimb l.parents l.start l.counter l.block l.found.items
