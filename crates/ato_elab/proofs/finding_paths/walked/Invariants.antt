use Rattle.std.proofs.Common.{◌≡◌, drop}
use Rattle.ato_elab.specs.Finding.{steps_from}
use Rattle.ato_elab.proofs.finding_paths.walked.Given as goal

abbrev pub invariant-loop-next : goal.invariant-loop-next
invariant-loop-next l = steps_from l.built l.instance l.fn.first l.more ≡ steps_from l.built l.at l.name (drop l.next-index l.more)
