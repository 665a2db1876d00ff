use Rattle.std.proofs.Common.{length}
use Rattle.ato_expr.specs.Scratches.{HasRoom}
use Rattle.ato_enclosures.proofs.judging.judged.Given as goal

-- the scratch keeps its room
abbrev pub invariant-loop : goal.invariant-loop
invariant-loop l = HasRoom l.scratch (length l.table)
