use Rattle.ato_frac.proofs.Scaled.{scaled_up, scaled_down}
use Rattle.ato_frac.proofs.decimal.scaling.scaled.Goals as goal

pub returns-else-up-down-gt-MOST : goal.returns-else-up-down-gt-MOST
returns-else-up-down-gt-MOST c =
    scaled_up c.args.m c.args.up c.args.down c.times_power.result c.if-down-up.true c.if-up-down-gt-MOST.false c.times_power.ensures

pub returns-else-down-up-gt-MOST : goal.returns-else-down-up-gt-MOST
returns-else-down-up-gt-MOST c =
    scaled_down c.args.m c.args.up c.args.down c.over_power.result c.if-down-up.false c.if-down-up-gt-MOST.false c.over_power.ensures
