use Rattle.std.proofs.Common.{subst, Ordering}
use Rattle.ato_frac.specs.Fractions.{value_of}
use Rattle.ato_frac.specs.OneNumber.{fraction_same}
use Rattle.ato_rational.specs.Rational.{Orders}
use Rattle.ato_frac.proofs.fraction.Frac.compare.Goals as goal

pub returns-clause-one : goal.returns-clause-one
returns-clause-one c e =
    let x = c.args.self.now in
    let y = c.args.o.now in
    fraction_same x y (subst (λ (r : Ordering). Orders (value_of x) (value_of y) r) e c.order.ensures)
