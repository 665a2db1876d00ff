use Rattle.ato_files.proofs.EndingLemmas.{IsWalk}
use Rattle.ato_files.proofs.endings.walk_up.Given as goal

abbrev pub invariant-loop : goal.invariant-loop
invariant-loop l = IsWalk l.parents l.start l.counter l.block l.walks
