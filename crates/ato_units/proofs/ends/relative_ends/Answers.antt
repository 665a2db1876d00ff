use Rattle.ato_units.proofs.Values.{no_relative, relative_given, abs_ℚ_same}
use Rattle.ato_rational.proofs.Order.{≈ℚ_trans}
use Rattle.ato_units.proofs.ends.relative_ends.Goals as goal

pub returns-in-Err : goal.returns-in-Err
returns-in-Err c = no_relative _ _ c.in-Err.ensures.1

pub returns-in-Ok : goal.returns-in-Ok
returns-in-Ok c = relative_given _ _ c.size-w.result _ (≈ℚ_trans c.size-w.ensures (abs_ℚ_same c.in-Ok.ensures.1)) c.ends_around.ensures
