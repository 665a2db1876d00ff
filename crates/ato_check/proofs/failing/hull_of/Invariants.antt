use Rattle.std.proofs.Common.{take}
use Rattle.ato_check.specs.Hulls.{Spans}
use Rattle.ato_check.proofs.failing.hull_of.Given as goal

abbrev pub invariant-loop-row : goal.invariant-loop-row
invariant-loop-row l = Spans (take l.row-index l.rows) l.t l.found
