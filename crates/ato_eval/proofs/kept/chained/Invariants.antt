use Rattle.std.proofs.Common.{length}
use Rattle.ato_eval.proofs.KeptLaws.{IsChaining}
use Rattle.ato_eval.proofs.kept.chained.Given as goal

-- what it comes to from here is what the whole comes to
abbrev pub invariant-rest : goal.invariant-rest
invariant-rest l = IsChaining l.chain l.scratch.ends l.total l.rest l.fn.first l.nodes

abbrev pub decreases-rest : goal.decreases-rest
decreases-rest l = length l.rest
