use Rattle.std.proofs.Common.{pos}
use Rattle.ato_rational.specs.Rational.{whole}
use Rattle.ato_frac.proofs.Scaled.{product_given}
use Rattle.ato_frac.proofs.decimal.scaling.times_power.Goals as goal

pub returns : goal.returns
returns c =
    rw c.ok.ensures.value
    (product_given c.whole_fraction.result c.whole_fraction-2.result (whole (pos c.args.m)) _ _ c.mul.result c.power_of_ten.ensures.value c.whole_fraction.ensures c.whole_fraction-2.ensures c.mul.ensures)
