use Rattle.ato_frac.specs.Numbers.{tens_positive}
use Rattle.ato_frac.proofs.decimal.scaling.over_power.Goals as goal

pub reduced_if_small-requires : goal.reduced_if_small-requires
reduced_if_small-requires c = rw c.power_of_ten.ensures.value (tens_positive c.args.k)
