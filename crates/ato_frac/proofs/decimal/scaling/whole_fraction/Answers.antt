use Rattle.std.proofs.Math.Nat.{one-dvd}
use Rattle.ato_frac.proofs.decimal.scaling.whole_fraction.Goals as goal

pub lowest-requires-clause-coprime : goal.lowest-requires-clause-coprime
lowest-requires-clause-coprime c = (one-dvd c.args.n, one-dvd 1, λ d p q. q)
