use Rattle.std.proofs.Common.{◌≡◌, ◌/◌, pos, ◌*ℤ◌, SFits, refl, mul-pos, rules}
use Rattle.std.specs.Int.{w128}
use Rattle.std.proofs.lemmas.Int.{to_z-of_z}
use Rattle.std.proofs.lemmas.Nat.Gcd.{IsGcd-swap}
use Rattle.ato_frac.proofs.LowestTerms.{quotient_positive}
use Rattle.ato_frac.proofs.Sums.{adds_over, sum_value, sign_kept}
use Rattle.ato_frac.specs.Fractions.{value_of}
use Rattle.ato_frac.proofs.fraction.Frac.add.Goals as goal
use Rattle.ato_frac.proofs.fraction.Frac.add.Goals.{After-sum}

pub returns-in_default : goal.returns-in_default
returns-in_default c =
    let own_fits : SFits w128 c.args.self.now.numer = search rules in
    (refl, λ r. (simp to_z-of_z at c.in_default.ensures) (adds_over (value_of c.args.self.now) (value_of c.args.o.now) c.gcd-g.result c.gcd-g.ensures r).left)

pub returns-in_default-product : goal.returns-in_default-product
returns-in_default-product c =
    let other_fits : SFits w128 c.args.o.now.numer = search rules in
    (refl, λ r. (simp to_z-of_z at c.in_default-product.ensures) (adds_over (value_of c.args.self.now) (value_of c.args.o.now) c.gcd-g.result c.gcd-g.ensures r).right)

-- the two numerators over the common denominator
left_is : (c : After-sum) → c.in-Some.left ≡ c.args.self.now.numer *ℤ pos (c.args.o.now.denom / c.gcd-g.result)
left_is c =
    let own_fits : SFits w128 c.args.self.now.numer = search rules in
    simp to_z-of_z at c.in-Some.ensures.0

right_is : (c : After-sum) → c.in-Some-product.right ≡ c.args.o.now.numer *ℤ pos (c.args.self.now.denom / c.gcd-g.result)
right_is c =
    let other_fits : SFits w128 c.args.o.now.numer = search rules in
    simp to_z-of_z at c.in-Some-product.ensures.0

pub returns-in_default-sum : goal.returns-in_default-sum
returns-in_default-sum c =
    let left_fits : SFits w128 c.in-Some.left = search rules in
    let right_fits : SFits w128 c.in-Some-product.right = search rules in
    let at = (goal.at.returns-in_default-sum c).After-sum in (
      refl,
      λ r. (simp to_z-of_z at c.in_default-sum.ensures)
          (rw (left_is at, right_is at) (adds_over (value_of c.args.self.now) (value_of c.args.o.now) c.gcd-g.result c.gcd-g.ensures r).sum),
    )

pub returns-in_default-size_product : goal.returns-in_default-size_product
returns-in_default-size_product c =
    (refl, λ r. c.in_default-size_product.ensures (adds_over (value_of c.args.self.now) (value_of c.args.o.now) c.gcd-g.result c.gcd-g.ensures r).common)

pub reduced-requires-clause-positive : goal.reduced-requires-clause-positive
reduced-requires-clause-positive c =
    rw c.in-Some-size_product.ensures.0
    (mul-pos (quotient_positive _ _ c.gcd-g.result (IsGcd-swap _ _ _ c.gcd-g.ensures) c.args.self.now.positive) c.args.o.now.positive)

pub returns : goal.returns
returns c =
    let at = (goal.at.returns c).After-sum in
    let left_fits : SFits w128 c.in-Some.left = search rules in
    let right_fits : SFits w128 c.in-Some-product.right = search rules in
    let total_fits : SFits w128 c.in-Some-sum.total = search rules in
    let total_is = rw (left_is at, right_is at) at (simp to_z-of_z at c.in-Some-sum.ensures.0) in
    let size_is = simp to_z-of_z at c.unsigned_abs.ensures.value in
    let cross = rw (size_is, sign_kept c.in-Some-sum.total) at (simp to_z-of_z at c.reduced.ensures) in (
      record {
        gcd = c.gcd-g.result;
        is_gcd = c.gcd-g.ensures;
        over = record {
          left = rw (← left_is at) c.in-Some.ensures.1;
          right = rw (← right_is at) c.in-Some-product.ensures.1;
          sum = rw (← total_is) c.in-Some-sum.ensures.1;
          common = rw (← c.in-Some-size_product.ensures.0) c.in-Some-size_product.ensures.1;
        };
      },
      sum_value c.args.self.now c.args.o.now c.reduced.result c.gcd-g.result c.in-Some-size_product.common c.in-Some-sum.total c.gcd-g.ensures total_is c.in-Some-size_product.ensures.0 cross,
    )
