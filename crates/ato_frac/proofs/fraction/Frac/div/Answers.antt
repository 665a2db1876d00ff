use Rattle.std.proofs.Common.{◌≢◌, pos, rules}
use Rattle.ato_frac.proofs.Dividing.{by_inverse}
use Rattle.ato_frac.proofs.fraction.Frac.div.Goals as goal

pub returns : goal.returns
returns c =
    let k : c.args.o.now.numer ≢ pos 0 = search rules in
    by_inverse c.args.self.now c.args.o.now c.inverse-inverse.result c.mul.result k c.inverse-inverse.ensures.numer c.inverse-inverse.ensures.denom c.mul.ensures
