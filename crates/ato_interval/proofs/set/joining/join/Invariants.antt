use Rattle.std.proofs.Common.{◌+◌, length}
use Rattle.ato_interval.proofs.PassLaws.{IsJoining}
use Rattle.ato_interval.proofs.set.joining.join.Given as goal

-- the parts that are done, the current one and the parts to come have all values
abbrev pub invariant-taken : goal.invariant-taken
invariant-taken g l = IsJoining g.Q.Exact.value l.parts l.current l.left_rest l.right_rest l.left l.right

abbrev pub decreases-taken : goal.decreases-taken
decreases-taken g l = length l.left_rest + length l.right_rest
