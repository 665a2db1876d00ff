-- Absolute values and powers of exact numbers.
use Rattle.std.proofs.Common.{◌≡◌, ℕ, suc, ◌+◌, ◌≤◌, subst, below_more, arith}
use Rattle.ato_rational.specs.Rational.{ℚ, ◌≈ℚ◌, ◌≤ℚ◌, ◌<ℚ◌, ◌-ℚ◌, ◌*ℚ◌, neg_ℚ, abs_ℚ, power_ℚ, zero_ℚ}
use Rattle.ato_rational.proofs.RationalRing.{rat, minus, ◌⊞◌, same}
use Rattle.ato_rational.proofs.Order.{≤ℚ_refl, ≤ℚ_trans, ≤ℚ_antisymm, <ℚ-≤ℚ_trans, ≈ℚ-≤ℚ, ≈ℚ_refl, ≈ℚ_sym, ≈ℚ_trans, clash_ℚ, +ℚ_same, *ℚ_comm, *ℚ_same_second}
use Rattle.ato_rational.proofs.Extremes.{abs_ℚ_below, max_ℚ_greatest}
use Rattle.ato_rational.proofs.Signs.{opposite_not_negative, opposite_not_positive}
use Rattle.ato_frac.specs.Powers.{AtPower, CanTurn, CanRaise}

-- the next power, with the number from the right
pub next_power : (x p r : ℚ) (j : ℕ) → p ≈ℚ power_ℚ x j → r ≈ℚ p *ℚ x → r ≈ℚ power_ℚ x (j + 1)
next_power x p r j e d =
    let next : suc j ≡ j + 1 = omega arith in
    subst (λ n. r ≈ℚ power_ℚ x n) next (≈ℚ_trans d (≈ℚ_trans (*ℚ_comm p x) (*ℚ_same_second x e)))

-- the absolute value is the number, or its difference from 0
pub abs_of_above : (z x : ℚ) → z ≈ℚ zero_ℚ → z ≤ℚ x → x ≈ℚ abs_ℚ x
abs_of_above z x e h =
    let n = ≤ℚ_trans (≈ℚ-≤ℚ (≈ℚ_sym e)) h in
    ≤ℚ_antisymm (max_ℚ_greatest x (neg_ℚ x)).0 (abs_ℚ_below x x (≤ℚ_refl x) (≤ℚ_trans (opposite_not_positive n) n))

pub abs_of_below : (z x r : ℚ) → z ≈ℚ zero_ℚ → x ≤ℚ z → r ≈ℚ z -ℚ x → r ≈ℚ abs_ℚ x
abs_of_below z x r e h d =
    let n = ≤ℚ_trans h (≈ℚ-≤ℚ e) in
    let turned = ≈ℚ_trans d (≈ℚ_trans (+ℚ_same e (≈ℚ_refl (neg_ℚ x))) (same (rat zero_ℚ ⊞ minus (rat x)) (minus (rat x)) (omega arith))) in
    ≈ℚ_trans turned
    (≤ℚ_antisymm (max_ℚ_greatest x (neg_ℚ x)).1
    (abs_ℚ_below x (neg_ℚ x) (≤ℚ_trans n (opposite_not_negative n)) (≤ℚ_refl (neg_ℚ x))))

-- one more product
pub raised_more : {Q : Type 0} (value : Q → ℚ) (R : Q → Q → Type 0) (x p : Q) (i : ℕ) → CanRaise value R x i → value p ≈ℚ power_ℚ (value x) i → R p x → CanRaise value R x (i + 1)
raised_more value R x p i raised e holds j from below =
    below_more (λ k. 1 ≤ k → AtPower value R x k) i (λ k h from. raised k from h) (λ _. record { power = p; is_power = e; holds = holds }) j below from

-- where the opposite of a number below 0 is there
module _ {Q : Type 0} (value : Q → ℚ) (can_subtract : Q → Q → Type 0) (zero x : Q) (is_zero : value zero ≈ℚ zero_ℚ) where
  -- a number that is not below 0 needs no opposite
  pub not_below : value zero ≤ℚ value x → CanTurn value can_subtract x
  not_below h = λ below _ _. absurd (clash_ℚ below (≤ℚ_trans (≈ℚ-≤ℚ (≈ℚ_sym is_zero)) h))

  -- one number is 0, so that its difference decides
  pub turned : ((y z : Q) → value y ≈ℚ value z → y ≡ z) → can_subtract zero x → CanTurn value can_subtract x
  turned one there = λ _ z e. subst (λ w. can_subtract w x) (one zero z (≈ℚ_trans is_zero (≈ℚ_sym e))) there

  pub not_turned : value x <ℚ value zero → ¬ can_subtract zero x → ¬ CanTurn value can_subtract x
  not_turned below refused all = refused (all (<ℚ-≤ℚ_trans below (≈ℚ-≤ℚ is_zero)) zero is_zero)
