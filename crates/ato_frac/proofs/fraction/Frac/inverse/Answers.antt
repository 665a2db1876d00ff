use Rattle.std.proofs.lemmas.Nat.Gcd.{IsGcd-swap}
use Rattle.ato_frac.proofs.fraction.Frac.inverse.Goals as goal

pub lowest-requires-clause-coprime : goal.lowest-requires-clause-coprime
lowest-requires-clause-coprime c = rw c.size.ensures (IsGcd-swap _ _ 1 c.args.self.now.lowest)
