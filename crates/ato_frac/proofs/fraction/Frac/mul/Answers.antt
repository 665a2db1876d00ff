use Rattle.std.proofs.Common.{◌∙◌, refl}
use Rattle.ato_frac.proofs.LowestTerms.{gcd_positive}
use Rattle.ato_frac.proofs.Multiplying.{product_fits, product_value, product_den_positive, product_coprime}
use Rattle.ato_frac.proofs.Ranges.{in_range}
use Rattle.ato_frac.proofs.fraction.Frac.mul.Goals as goal

pub returns-in_default : goal.returns-in_default
returns-in_default c =
    let is_g = rw c.size-a.ensures at c.gcd-g.ensures in
    let is_h = rw c.size-c.ensures at c.gcd-h.ensures in
    let absent = rw (c.size-a.ensures, c.size-c.ensures) at c.in_default.ensures in
    (refl, λ r. absent (product_fits c.args.self.now c.args.o.now _ _ is_g is_h r).0)

pub nonzero_div-self : goal.nonzero_div-self
nonzero_div-self c = gcd_positive _ _ c.gcd-h.result c.gcd-h.ensures c.args.self.now.positive

pub nonzero_div-o : goal.nonzero_div-o
nonzero_div-o c = gcd_positive _ _ c.gcd-g.result c.gcd-g.ensures c.args.o.now.positive

pub returns-in_default-size_product : goal.returns-in_default-size_product
returns-in_default-size_product c =
    let is_g = rw c.size-a.ensures at c.gcd-g.ensures in
    let is_h = rw c.size-c.ensures at c.gcd-h.ensures in
    (refl, λ r. c.in_default-size_product.ensures (product_fits c.args.self.now c.args.o.now _ _ is_g is_h r).1)

pub lowest-requires-clause-positive : goal.lowest-requires-clause-positive
lowest-requires-clause-positive c =
    rw c.in-Some-size_product.ensures.0
    (product_den_positive _ _ _ _ _ _ c.gcd-g.ensures c.gcd-h.ensures c.args.self.now.positive c.args.o.now.positive)

pub lowest-requires-clause-coprime : goal.lowest-requires-clause-coprime
lowest-requires-clause-coprime c =
    let own_lowest = rw (← c.size-a.ensures) at c.args.self.now.lowest in
    let other_lowest = rw (← c.size-c.ensures) at c.args.o.now.lowest in
    rw (c.in-Some.ensures.0, c.in-Some-size_product.ensures.0)
    (product_coprime _ _ _ _ _ _ c.gcd-g.ensures c.gcd-h.ensures c.args.self.now.positive c.args.o.now.positive own_lowest other_lowest)

pub returns : goal.returns
returns c =
    let is_g = rw c.size-a.ensures at c.gcd-g.ensures in
    let is_h = rw c.size-c.ensures at c.gcd-h.ensures in
    let numer = rw (c.is_negative.ensures, c.is_negative-2.ensures, c.in-Some.ensures.0, c.size-a.ensures, c.size-c.ensures) at c.lowest.ensures.numer in
    let value = product_value c.args.self.now c.args.o.now _ _ is_g is_h c.lowest.result numer (c.lowest.ensures.denom ∙ c.in-Some-size_product.ensures.0) in
    (in_range c.lowest.result _ value, value)
