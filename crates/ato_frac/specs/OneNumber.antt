-- Each value has one number at most: one fraction, and one coin.
use Rattle.std.proofs.Common.{◌≡◌, ◌+◌, ◌*◌, ◌^◌, ◌<◌, pos, unsigned_abs, sym, ap, ◌∙◌, arith}
use Rattle.std.proofs.Math.Nat.{eq_of_mul-eq-mul_right}
use borrow.Author.Differences.{up, down}
use Rattle.std.proofs.Math.Bridge.{le_prop}
use Rattle.std.proofs.Math.Nat.{∣_prop}
use Rattle.std.specs.Int.{IsGcd}
use mathlib.Core.HLevel.{is_prop→PathP}
use Rattle.std.proofs.lemmas.Int.{unsigned_abs-mul}
use Rattle.ato_frac.specs.declared.coin.Coin.{Coin}
use Rattle.ato_frac.specs.declared.fraction.Frac.{Frac}
use Rattle.ato_frac.specs.Fractions.{value_of}
use Rattle.ato_frac.specs.Coprime.{lowest_unique}
use Rattle.ato_rational.specs.Rational.{◌≈ℚ◌, whole}
use Rattle.ato_rational.proofs.Ring.{int, nat, ◌⊗◌, same, from_same}

-- fractions of one value have the same parts
pub parts_same : (x y : Frac) → value_of x ≈ℚ value_of y → (x.numer ≡ y.numer) × (x.denom ≡ y.denom)
parts_same x y e =
    let sizes : unsigned_abs x.numer * y.denom ≡ unsigned_abs y.numer * x.denom =
    sym (unsigned_abs-mul x.numer (pos y.denom)) ∙ ap unsigned_abs e.same ∙ unsigned_abs-mul y.numer (pos x.denom)
    in
    let t = lowest_unique (unsigned_abs x.numer) x.denom (unsigned_abs y.numer) y.denom x.lowest y.lowest x.positive sizes in
    let p = rw t.1 at (from_same (int x.numer ⊗ nat y.denom) (int y.numer ⊗ nat x.denom) e.same) in
    let sides : (up x.numer + down y.numer) * y.denom ≡ (up y.numer + down x.numer) * y.denom = omega (arith, p) in (
      same (int x.numer) (int y.numer) (omega (arith, eq_of_mul-eq-mul_right y.denom y.positive (up x.numer + down y.numer) (up y.numer + down x.numer) sides)),
      t.1,
    )

-- so a value has one fraction
pub fraction_same : (x y : Frac) → value_of x ≈ℚ value_of y → x ≡ y
fraction_same x y e =
    let p = parts_same x y e in
    λ i. record {
      numer = p.0 i;
      denom = p.1 i;
      positive = is_prop→PathP (λ j. 0 < p.1 j) (λ j. hlevel (le_prop, ∣_prop)) x.positive y.positive i;
      numer_small = is_prop→PathP (λ j. unsigned_abs (p.0 j) < 2 ^ 127) (λ j. hlevel (le_prop, ∣_prop)) x.numer_small y.numer_small i;
      denom_small = is_prop→PathP (λ j. p.1 j < 2 ^ 127) (λ j. hlevel (le_prop, ∣_prop)) x.denom_small y.denom_small i;
      lowest = is_prop→PathP (λ j. IsGcd (unsigned_abs (p.0 j)) (p.1 j) 1) (λ j. hlevel (le_prop, ∣_prop)) x.lowest y.lowest i;
    }

-- and one coin at most
pub coin_same : (x y : Coin) → whole (pos x.0) ≈ℚ whole (pos y.0) → x ≡ y
coin_same x y e =
    let p = from_same (nat x.0 ⊗ nat 1) (nat y.0 ⊗ nat 1) e.same in
    let same : x.0 ≡ y.0 = omega (arith, p) in
    λ i. record { 0 = same i }
