-- One point, opposites, and the least interval around two.
use Rattle.std.proofs.Common.{◌≡◌, ◌⊎◌, ⊎_elim, ◌↔◌, ℕ, zero, suc, Bool, true, false}
use Rattle.std.specs.Prelude.{MatchBool}
use Rattle.ato_rational.specs.Rational.{ℚ, ◌≈ℚ◌, ◌≤ℚ◌, ◌<ℚ◌, neg_ℚ, abs_ℚ, power_ℚ, zero_ℚ, one_ℚ}
use Rattle.ato_rational.specs.Ranges.{IsWithin, AtEnds, IsAtEnds}
use Rattle.ato_rational.proofs.Order.{≤ℚ_refl, ≤ℚ_trans, ≤ℚ_antisymm, ≈ℚ_refl, ≈ℚ-≤ℚ, ≈ℚ_sym, ≈ℚ_trans, *ℚ_same, neg_ℚ_same, neg_ℚ_anti}
use Rattle.ato_rational.proofs.Extremes.{max_ℚ_greatest, abs_ℚ_below}
use Rattle.ato_rational.proofs.Ends.{neg_within}
use Rattle.ato_frac.specs.declared.fraction.Frac.{Frac}
use Rattle.ato_frac.specs.Fractions.{value_of}
use Rattle.ato_interval.specs.Ends.{Ends, Holds, IsProper}
use Rattle.ato_interval.specs.Corners.{EndsAtCorners}
use Rattle.ato_interval.specs.Points.{point, IsExactOn, IsExactAt}
use Rattle.ato_interval.specs.Results.{HoldsImage, IsImage}
use Rattle.ato_interval.proofs.ResultLaws.{ends_same, low_held, high_held}

pub at_itself : (x : ℚ) → x ≤ℚ x
at_itself x = ≤ℚ_refl x

-- an interval whose high end is not above its low end is a point
pub one_told : (b : Bool) (low high : ℚ) → low ≤ℚ high → MatchBool b (high ≤ℚ low) (low <ℚ high) → MatchBool b (low ≈ℚ high) (low <ℚ high)
one_told true low high p h = ≤ℚ_antisymm p h
one_told false low high p h = h

-- ---- operations on points

power_same : {x y : ℚ} (k : ℕ) → x ≈ℚ y → power_ℚ x k ≈ℚ power_ℚ y k
power_same zero e = ≈ℚ_refl one_ℚ
power_same (suc k) e = *ℚ_same e (power_same k e)

abs_same : {x y : ℚ} → x ≈ℚ y → abs_ℚ x ≈ℚ abs_ℚ y
abs_same {x} {y} e = ≤ℚ_antisymm (below e) (below (≈ℚ_sym e))
  where
    below : {v w : ℚ} → v ≈ℚ w → abs_ℚ v ≤ℚ abs_ℚ w
    below {v} {w} d =
        abs_ℚ_below v (abs_ℚ w)
        (≤ℚ_trans (≈ℚ-≤ℚ d) (max_ℚ_greatest w (neg_ℚ w)).0)
        (≤ℚ_trans (≈ℚ-≤ℚ (neg_ℚ_same d)) (max_ℚ_greatest w (neg_ℚ w)).1)

same_end : (f : ℚ → ℚ → ℚ) (x y z : ℚ) → IsAtEnds f x x y y z → z ≈ℚ f x y
same_end f x y z h = ⊎_elim (⊎_elim (λ e. e) (λ e. e)) (⊎_elim (λ e. e) (λ e. e)) h

module _ {Q : Type 0} (value : Q → ℚ) (one : (x y : Q) → value x ≈ℚ value y → x ≡ y) where
  pub exact_on : (f : ℚ → ℚ → ℚ) (x y : Q) → EndsAtCorners value f (point x) (point y) → IsExactOn value f x y
  exact_on f x y corners r holds low_is high_is =
      let c = corners r (≤ℚ_refl _) (≤ℚ_refl _) holds low_is high_is in
      let low = same_end f (value x) (value y) (value r.low) c.0 in
      let high = same_end f (value x) (value y) (value r.high) c.1 in
      (one r.low r.high (≈ℚ_trans low (≈ℚ_sym high)), low)

  exact_at : (f : ℚ → ℚ) → ((p q : ℚ) → p ≈ℚ q → f p ≈ℚ f q) → (x : Q) → IsExactAt value f x
  exact_at f same x r holds low_is high_is =
      let at : (z : ℚ) → IsImage value f (point x) z → z ≈ℚ f (value x) =
      λ z i. ≈ℚ_trans i.same (same i.argument (value x) (≤ℚ_antisymm i.argument_in.below i.argument_in.above))
      in
      (one r.low r.high (≈ℚ_trans (at _ low_is) (≈ℚ_sym (at _ high_is))), at _ low_is)

  pub absolute_exact : (x : Q) → IsExactAt value abs_ℚ x
  absolute_exact = exact_at abs_ℚ (λ p q e. abs_same e)

  pub power_exact : (x : Q) (k : ℕ) → IsExactAt value (λ y. power_ℚ y k) x
  power_exact x k = exact_at (λ y. power_ℚ y k) (λ p q e. power_same k e) x

-- a rule of two numbers at all ends of points is the rule
pub there_at_points : {Q : Type 0} (R : Q → Q → Type 0) (x y : Q) → AtEnds R x x y y ↔ R x y
there_at_points R x y = (λ e. e.low_low, λ r. record { low_low = r; low_high = r; high_low = r; high_high = r })

module _ (a : Ends Frac) (p : IsProper value_of a) (low high : Frac) (low_is : value_of low ≈ℚ neg_ℚ (value_of a.high)) (high_is : value_of high ≈ℚ neg_ℚ (value_of a.low)) where
  pub opposite_proper : value_of low ≤ℚ value_of high
  opposite_proper = ≤ℚ_trans (≈ℚ-≤ℚ low_is) (≤ℚ_trans (neg_ℚ_anti p) (≈ℚ-≤ℚ (≈ℚ_sym high_is)))

  pub opposite_holds : (x : ℚ) → Holds value_of a x → IsWithin (value_of low) (value_of high) (neg_ℚ x)
  opposite_holds x w = ends_same low_is high_is (neg_within (value_of a.low) (value_of a.high) x w)

  pub opposite_low : IsImage value_of neg_ℚ a (value_of low)
  opposite_low = record { argument = value_of a.high; argument_in = high_held value_of a p; same = low_is }

  pub opposite_high : IsImage value_of neg_ℚ a (value_of high)
  opposite_high = record { argument = value_of a.low; argument_in = low_held value_of a p; same = high_is }
