-- The signs of opposites.
use Rattle.std.proofs.Common.{arith}
use Rattle.ato_rational.specs.Rational.{ℚ, ◌≤ℚ◌, ◌<ℚ◌, neg_ℚ, zero_ℚ}
use Rattle.ato_rational.proofs.RationalRing.{rat, minus, at_most, below, from_at_most, from_below}

pub opposite_not_negative : {x : ℚ} → x ≤ℚ zero_ℚ → zero_ℚ ≤ℚ neg_ℚ x
opposite_not_negative {x} s =
    let p = from_at_most (rat x) (rat zero_ℚ) s in
    at_most (rat zero_ℚ) (minus (rat x)) (omega arith)

pub opposite_not_positive : {x : ℚ} → zero_ℚ ≤ℚ x → neg_ℚ x ≤ℚ zero_ℚ
opposite_not_positive {x} s =
    let p = from_at_most (rat zero_ℚ) (rat x) s in
    at_most (minus (rat x)) (rat zero_ℚ) (omega arith)

pub opposite_positive : {x : ℚ} → x <ℚ zero_ℚ → zero_ℚ <ℚ neg_ℚ x
opposite_positive {x} s =
    let p = from_below (rat x) (rat zero_ℚ) s in
    below (rat zero_ℚ) (minus (rat x)) (omega arith)

pub opposite_negative : {x : ℚ} → zero_ℚ <ℚ x → neg_ℚ x <ℚ zero_ℚ
opposite_negative {x} s =
    let p = from_below (rat zero_ℚ) (rat x) s in
    below (minus (rat x)) (rat zero_ℚ) (omega arith)

-- the order of two opposites, turned back
pub turned_back : {p q : ℚ} → neg_ℚ q ≤ℚ neg_ℚ p → p ≤ℚ q
turned_back {p} {q} h =
    let t = from_at_most (minus (rat q)) (minus (rat p)) h in
    at_most (rat p) (rat q) (omega arith)
