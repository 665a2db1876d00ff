use Rattle.std.proofs.Common.{arith}
use Rattle.ato_frac.proofs.LowestTerms.{signed_cross, quotient_positive, quotients_cross, quotients_coprime, in_range_lowest}
use Rattle.ato_frac.proofs.fraction.lowest_terms.reduced_if_small.Goals as goal

pub returns-then-p-ge-LIMIT : goal.returns-then-p-ge-LIMIT
returns-then-p-ge-LIMIT c r =
    let n = c.args.n in
    let d = c.args.d in
    let g = c.gcd-g.result in
    let h = c.gcd-g.ensures in
    let small =
    in_range_lowest c.args.negative _ _ n d (quotients_coprime n d g h c.requires) (quotient_positive n d g h c.requires) c.requires
    (quotients_cross n d g h c.requires) r
    in
    omega arith

pub lowest-requires-clause-positive : goal.lowest-requires-clause-positive
lowest-requires-clause-positive c = quotient_positive c.args.n c.args.d c.gcd-g.result c.gcd-g.ensures c.requires

pub lowest-requires-clause-coprime : goal.lowest-requires-clause-coprime
lowest-requires-clause-coprime c = quotients_coprime c.args.n c.args.d c.gcd-g.result c.gcd-g.ensures c.requires

pub returns : goal.returns
returns c =
    rw (c.lowest.ensures.numer, c.lowest.ensures.denom)
    (signed_cross c.args.negative _ _ c.args.n c.args.d (quotients_cross c.args.n c.args.d c.gcd-g.result c.gcd-g.ensures c.requires))
