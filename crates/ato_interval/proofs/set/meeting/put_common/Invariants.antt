use Rattle.std.proofs.Common.{◌+◌, length}
use Rattle.ato_interval.proofs.PassLaws.{IsMeeting}
use Rattle.ato_interval.proofs.set.meeting.put_common.Given as goal

-- the parts that are done and the common values of what is to come are all common values
abbrev pub invariant-pairs : goal.invariant-pairs
invariant-pairs g l = IsMeeting g.Q.Exact.value l.parts l.left_rest l.right_rest l.left l.right

abbrev pub decreases-pairs : goal.decreases-pairs
decreases-pairs g l = length l.left_rest + length l.right_rest
