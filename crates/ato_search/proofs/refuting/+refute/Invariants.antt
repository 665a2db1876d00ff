use Rattle.std.proofs.Common.{length}
use Rattle.ato_search.proofs.refuting.+refute.Given as goal

abbrev pub decreases-refute : goal.decreases-refute
decreases-refute l = length l.rows.now
