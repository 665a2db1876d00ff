use Rattle.std.proofs.Common.{◌≡◌, unsigned_abs, to_z, of_z, ap, ◌∙◌}
use Rattle.std.specs.Int.{w128}
use Rattle.ato_frac.specs.Signed.{signed_of}
use Rattle.ato_frac.proofs.LowestTerms.{unsigned_abs-signed, signed_stored}
use Rattle.ato_frac.proofs.fraction.lowest_terms.lowest.Goals as goal
use Rattle.ato_frac.proofs.fraction.lowest_terms.lowest.Goals.{After-signed}

-- the numerator that is stored
stored : (c : After-signed) → to_z w128 (of_z w128 c.signed.result) ≡ signed_of c.args.negative c.args.p
stored c = ap (λ z. to_z w128 (of_z w128 z)) c.signed.ensures ∙ signed_stored c.args.negative c.args.p c.requires.p_small

pub invariant_of-result : goal.invariant_of-result
invariant_of-result c =
    let size : unsigned_abs (to_z w128 (of_z w128 c.signed.result)) ≡ c.args.p = ap unsigned_abs (stored c) ∙ unsigned_abs-signed c.args.negative c.args.p in
    record {
      positive = c.requires.positive;
      numer_small = rw size c.requires.p_small;
      denom_small = c.requires.q_small;
      lowest = rw size c.requires.coprime;
    }

pub returns-clause-numer : goal.returns-clause-numer
returns-clause-numer c = stored (goal.at.returns-clause-numer c).After-signed
