use Rattle.ato_cert.proofs.RowLemmas.{RiseTo}
use Rattle.ato_cert.proofs.well_made.are_rising.Given as goal

abbrev pub invariant-loop-at : goal.invariant-loop-at
invariant-loop-at l = RiseTo l.at l.rows
