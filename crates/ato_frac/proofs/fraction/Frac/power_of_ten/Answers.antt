use Rattle.ato_frac.specs.Numbers.{tens_positive}
use Rattle.ato_frac.proofs.fraction.Frac.power_of_ten.Goals as goal

pub lowest-requires-clause-positive : goal.lowest-requires-clause-positive
lowest-requires-clause-positive c = rw c.power_of_ten-size.ensures.value (tens_positive c.unsigned_abs.result)
