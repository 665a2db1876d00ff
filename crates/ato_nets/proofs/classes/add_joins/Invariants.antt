use Rattle.std.proofs.Common.{take}
use Rattle.ato_nets.specs.Flooding.{AreRows}
use Rattle.ato_nets.proofs.classes.add_joins.Given as goal

abbrev pub invariant-loop-first : goal.invariant-loop-first
invariant-loop-first l = AreRows (take l.first-index l.joins) l.rows
