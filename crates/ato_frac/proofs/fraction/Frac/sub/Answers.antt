use Rattle.ato_frac.proofs.fraction.Frac.sub.Goals as goal
use Rattle.ato_frac.proofs.Sums.{by_opposite}

pub returns : goal.returns
returns c = by_opposite c.args.self.now c.args.o.now c.opposite-opposite.result c.add.result c.opposite-opposite.ensures.numer c.opposite-opposite.ensures.denom c.add.ensures
