use Rattle.ato_frac.proofs.fraction.Frac.opposite.Goals as goal

pub lowest-requires-clause-coprime : goal.lowest-requires-clause-coprime
lowest-requires-clause-coprime c = rw c.size.ensures c.args.self.now.lowest
