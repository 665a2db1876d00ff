use Rattle.std.proofs.Common.{◌≡◌, take}
use Rattle.ato_first.specs.FirstJoins.{lines_joins}
use Rattle.ato_first.proofs.first_points.joins_of.Given as goal

abbrev pub invariant-loop-line : goal.invariant-loop-line
invariant-loop-line l = l.joins.items ≡ lines_joins l.points (take l.line-index l.lines)
