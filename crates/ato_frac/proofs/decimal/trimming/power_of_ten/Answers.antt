use Rattle.std.proofs.Common.{arith}
use Rattle.ato_frac.proofs.Trimming.{tens_rise}
use Rattle.ato_frac.proofs.decimal.trimming.power_of_ten.Goals as goal

pub pow-requires : goal.pow-requires
pow-requires c = omega (arith, tens_rise c.args.k 38 c.requires)

pub returns-clause-small : goal.returns-clause-small
returns-clause-small c = rw c.pow.ensures (omega (arith, tens_rise c.args.k 38 c.requires))
