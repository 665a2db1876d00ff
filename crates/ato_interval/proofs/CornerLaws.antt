-- Each end of the interval of an operation of two is the operation's result at an end of the one and an end of the other.
use Rattle.std.proofs.Common.{◌≡◌, ◌⊎◌, inl, inr, ⊎_elim}
use Rattle.ato_rational.specs.Rational.{ℚ, ◌≈ℚ◌, ◌≤ℚ◌, ◌+ℚ◌, ◌-ℚ◌, ◌*ℚ◌, ◌/ℚ◌, neg_ℚ, min_ℚ, max_ℚ}
use Rattle.ato_rational.specs.Ranges.{IsWithin, AtEnds, IsAtEnds, IsApartFromZero}
use Rattle.ato_rational.proofs.Order.{≤ℚ_refl, ≤ℚ_trans, ≤ℚ_antisymm, ≈ℚ_refl, ≈ℚ-≤ℚ, ≈ℚ_sym, ≈ℚ_trans}
use Rattle.ato_rational.proofs.Extremes.{min_ℚ_least, max_ℚ_greatest}
use Rattle.ato_rational.proofs.Ends.{sum_within, difference_within, min_within, max_within}
use Rattle.ato_rational.proofs.Products.{product_within}
use Rattle.ato_rational.proofs.Quotients.{quotient_within}
use Rattle.ato_interval.specs.Ends.{Ends, Holds, IsProper}
use Rattle.ato_interval.specs.Corners.{EndsAtCorners}
use Rattle.ato_interval.specs.Results.{HoldsResults, IsResult}

-- the least of four values, and the greatest
least : ℚ → ℚ → ℚ → ℚ → ℚ
least w x y z = min_ℚ (min_ℚ w x) (min_ℚ y z)

greatest : ℚ → ℚ → ℚ → ℚ → ℚ
greatest w x y z = max_ℚ (max_ℚ w x) (max_ℚ y z)

module _ (w x y z : ℚ) where
  least_below : (least w x y z ≤ℚ w) × (least w x y z ≤ℚ x) × (least w x y z ≤ℚ y) × (least w x y z ≤ℚ z)
  unfolding least
  least_below =
      let top = min_ℚ_least (min_ℚ w x) (min_ℚ y z) in
      let left = min_ℚ_least w x in
      let right = min_ℚ_least y z in
      (≤ℚ_trans top.0 left.0, ≤ℚ_trans top.0 left.1, ≤ℚ_trans top.1 right.0, ≤ℚ_trans top.1 right.1)

  least_one : ((least w x y z ≡ w) ⊎ (least w x y z ≡ x)) ⊎ ((least w x y z ≡ y) ⊎ (least w x y z ≡ z))
  unfolding least
  least_one =
      ⊎_elim
      (λ e. rw e (inl (min_ℚ_least w x).2))
      (λ e. rw e (inr (min_ℚ_least y z).2))
      (min_ℚ_least (min_ℚ w x) (min_ℚ y z)).2

  greatest_above : (w ≤ℚ greatest w x y z) × (x ≤ℚ greatest w x y z) × (y ≤ℚ greatest w x y z) × (z ≤ℚ greatest w x y z)
  unfolding greatest
  greatest_above =
      let top = max_ℚ_greatest (max_ℚ w x) (max_ℚ y z) in
      let left = max_ℚ_greatest w x in
      let right = max_ℚ_greatest y z in
      (≤ℚ_trans left.0 top.0, ≤ℚ_trans left.1 top.0, ≤ℚ_trans right.0 top.1, ≤ℚ_trans right.1 top.1)

  greatest_one : ((greatest w x y z ≡ w) ⊎ (greatest w x y z ≡ x)) ⊎ ((greatest w x y z ≡ y) ⊎ (greatest w x y z ≡ z))
  unfolding greatest
  greatest_one =
      ⊎_elim
      (λ e. rw e (inl (max_ℚ_greatest w x).2))
      (λ e. rw e (inr (max_ℚ_greatest y z).2))
      (max_ℚ_greatest (max_ℚ w x) (max_ℚ y z)).2

  -- what equals one of four bounds is one of the four
  is_least : (r : ℚ) → r ≤ℚ w → r ≤ℚ x → r ≤ℚ y → r ≤ℚ z → least w x y z ≤ℚ r → ((r ≈ℚ w) ⊎ (r ≈ℚ x)) ⊎ ((r ≈ℚ y) ⊎ (r ≈ℚ z))
  is_least r a b c d e =
      ⊎_elim
      (⊎_elim (λ h. inl (inl (≤ℚ_antisymm a (rw h at e)))) (λ h. inl (inr (≤ℚ_antisymm b (rw h at e)))))
      (⊎_elim (λ h. inr (inl (≤ℚ_antisymm c (rw h at e)))) (λ h. inr (inr (≤ℚ_antisymm d (rw h at e)))))
      least_one

  is_greatest : (r : ℚ) → w ≤ℚ r → x ≤ℚ r → y ≤ℚ r → z ≤ℚ r → r ≤ℚ greatest w x y z → ((r ≈ℚ w) ⊎ (r ≈ℚ x)) ⊎ ((r ≈ℚ y) ⊎ (r ≈ℚ z))
  is_greatest r a b c d e =
      ⊎_elim
      (⊎_elim (λ h. inl (inl (≤ℚ_antisymm (rw h at e) a))) (λ h. inl (inr (≤ℚ_antisymm (rw h at e) b))))
      (⊎_elim (λ h. inr (inl (≤ℚ_antisymm (rw h at e) c))) (λ h. inr (inr (≤ℚ_antisymm (rw h at e) d))))
      greatest_one

module _ {Q : Type 0} (value : Q → ℚ) (f : ℚ → ℚ → ℚ) (a b r : Ends Q) (a_proper : IsProper value a) (b_proper : IsProper value b)
    (bounds : (l h x y : ℚ) → AtEnds (λ p q. IsWithin l h (f p q)) (value a.low) (value a.high) (value b.low) (value b.high)
    → Holds value a x → Holds value b y → IsWithin l h (f x y))
    (holds : HoldsResults value f a b r) where
  a_low : Holds value a (value a.low)
  a_low = record { above = ≤ℚ_refl _; below = a_proper }

  a_high : Holds value a (value a.high)
  a_high = record { above = a_proper; below = ≤ℚ_refl _ }

  b_low : Holds value b (value b.low)
  b_low = record { above = ≤ℚ_refl _; below = b_proper }

  b_high : Holds value b (value b.high)
  b_high = record { above = b_proper; below = ≤ℚ_refl _ }

  within_four : (x y : ℚ) → Holds value a x → Holds value b y
      → IsWithin (least (f (value a.low) (value b.low)) (f (value a.low) (value b.high)) (f (value a.high) (value b.low)) (f (value a.high) (value b.high)))
      (greatest (f (value a.low) (value b.low)) (f (value a.low) (value b.high)) (f (value a.high) (value b.low)) (f (value a.high) (value b.high)))
      (f x y)
  within_four x y v w =
      let down = least_below (f (value a.low) (value b.low)) (f (value a.low) (value b.high)) (f (value a.high) (value b.low)) (f (value a.high) (value b.high)) in
      let up = greatest_above (f (value a.low) (value b.low)) (f (value a.low) (value b.high)) (f (value a.high) (value b.low)) (f (value a.high) (value b.high)) in
      bounds _ _ x y
      (record {
        low_low = record { above = down.0; below = up.0 };
        low_high = record { above = down.1; below = up.1 };
        high_low = record { above = down.2; below = up.2 };
        high_high = record { above = down.3; below = up.3 };
      })
      v
      w

  -- the low end is one of the four results of ends, and so is the high end
  pub low_corner : IsResult value f a b (value r.low) → IsAtEnds f (value a.low) (value a.high) (value b.low) (value b.high) (value r.low)
  low_corner e =
      is_least _ _ _ _ (value r.low)
      (holds _ _ a_low b_low).above
      (holds _ _ a_low b_high).above
      (holds _ _ a_high b_low).above
      (holds _ _ a_high b_high).above
      (≤ℚ_trans (within_four e.left e.right e.left_in e.right_in).above (≈ℚ-≤ℚ (≈ℚ_sym e.same)))

  pub high_corner : IsResult value f a b (value r.high) → IsAtEnds f (value a.low) (value a.high) (value b.low) (value b.high) (value r.high)
  high_corner e =
      is_greatest _ _ _ _ (value r.high)
      (holds _ _ a_low b_low).below
      (holds _ _ a_low b_high).below
      (holds _ _ a_high b_low).below
      (holds _ _ a_high b_high).below
      (≤ℚ_trans (≈ℚ-≤ℚ e.same) (within_four e.left e.right e.left_in e.right_in).below)

-- the bounds that this needs hold for each operation of two
pub sum_bounds : (a b c d l h x y : ℚ) → AtEnds (λ p q. IsWithin l h (p +ℚ q)) a b c d → IsWithin a b x → IsWithin c d y → IsWithin l h (x +ℚ y)
sum_bounds a b c d l h x y e v w =
    let s = sum_within a b c d x y v w in
    record { above = ≤ℚ_trans e.low_low.above s.above; below = ≤ℚ_trans s.below e.high_high.below }

pub difference_bounds : (a b c d l h x y : ℚ) → AtEnds (λ p q. IsWithin l h (p -ℚ q)) a b c d → IsWithin a b x → IsWithin c d y → IsWithin l h (x -ℚ y)
difference_bounds a b c d l h x y e v w =
    let s = difference_within a b c d x y v w in
    record { above = ≤ℚ_trans e.low_high.above s.above; below = ≤ℚ_trans s.below e.high_low.below }

pub min_bounds : (a b c d l h x y : ℚ) → AtEnds (λ p q. IsWithin l h (min_ℚ p q)) a b c d → IsWithin a b x → IsWithin c d y → IsWithin l h (min_ℚ x y)
min_bounds a b c d l h x y e v w =
    let s = min_within a b c d x y v w in
    record { above = ≤ℚ_trans e.low_low.above s.above; below = ≤ℚ_trans s.below e.high_high.below }

pub max_bounds : (a b c d l h x y : ℚ) → AtEnds (λ p q. IsWithin l h (max_ℚ p q)) a b c d → IsWithin a b x → IsWithin c d y → IsWithin l h (max_ℚ x y)
max_bounds a b c d l h x y e v w =
    let s = max_within a b c d x y v w in
    record { above = ≤ℚ_trans e.low_low.above s.above; below = ≤ℚ_trans s.below e.high_high.below }

pub product_bounds : (a b c d l h x y : ℚ) → AtEnds (λ p q. IsWithin l h (p *ℚ q)) a b c d → IsWithin a b x → IsWithin c d y → IsWithin l h (x *ℚ y)
product_bounds a b c d l h x y e v w = product_within l h a b c d x y e v w

pub quotient_bounds : (a b c d : ℚ) → IsApartFromZero c d → (l h x y : ℚ) → AtEnds (λ p q. IsWithin l h (p /ℚ q)) a b c d → IsWithin a b x → IsWithin c d y → IsWithin l h (x /ℚ y)
quotient_bounds a b c d s l h x y e v w = quotient_within l h a b c d x y s e v w

-- so both ends of an interval from the least to the greatest result are results of ends
pub at_corners : {Q : Type 0} (value : Q → ℚ) (f : ℚ → ℚ → ℚ) (a b : Ends Q)
    → ((l h x y : ℚ) → AtEnds (λ p q. IsWithin l h (f p q)) (value a.low) (value a.high) (value b.low) (value b.high) → Holds value a x → Holds value b y → IsWithin l h (f x y))
    → EndsAtCorners value f a b
at_corners value f a b bounds r p q holds low_is high_is =
    (low_corner value f a b r p q bounds holds low_is, high_corner value f a b r p q bounds holds high_is)
