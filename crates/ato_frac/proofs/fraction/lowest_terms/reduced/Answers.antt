use Rattle.ato_frac.proofs.LowestTerms.{signed_cross, quotient_positive, quotients_cross, quotients_coprime}
use Rattle.ato_frac.proofs.fraction.lowest_terms.reduced.Goals as goal

pub lowest-requires-clause-positive : goal.lowest-requires-clause-positive
lowest-requires-clause-positive c = quotient_positive c.args.n c.args.d c.gcd-g.result c.gcd-g.ensures c.requires.positive

pub lowest-requires-clause-coprime : goal.lowest-requires-clause-coprime
lowest-requires-clause-coprime c = quotients_coprime c.args.n c.args.d c.gcd-g.result c.gcd-g.ensures c.requires.positive

pub returns : goal.returns
returns c =
    rw (c.lowest.ensures.numer, c.lowest.ensures.denom)
    (signed_cross c.args.negative _ _ c.args.n c.args.d (quotients_cross c.args.n c.args.d c.gcd-g.result c.gcd-g.ensures c.requires.positive))
