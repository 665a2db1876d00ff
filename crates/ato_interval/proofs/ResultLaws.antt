-- Ends as results of values, and what lies between ends that are given by other numbers.
use Rattle.std.proofs.Common.{◌≡◌, ◌⊎◌, inl, inr, ⊎_elim, Bool, true, false}
use Rattle.std.specs.Prelude.{MatchBool}
use Rattle.ato_rational.specs.Rational.{ℚ, ◌≈ℚ◌, ◌≤ℚ◌, ◌<ℚ◌, min_ℚ, max_ℚ, zero_ℚ}
use Rattle.ato_rational.specs.Ranges.{IsWithin, IsApartFromZero}
use Rattle.ato_rational.proofs.Order.{≤ℚ_refl, ≤ℚ_trans, ≤ℚ_antisymm, ≤ℚ-<ℚ_trans, <ℚ-≤ℚ_trans, ≈ℚ-≤ℚ, ≈ℚ_sym, IsWithin-same}
use Rattle.ato_rational.proofs.Extremes.{min_ℚ_least, min_ℚ_above, max_ℚ_greatest, max_ℚ_below}
use Rattle.ato_interval.specs.Ends.{Ends, Holds, IsProper}
use Rattle.ato_interval.specs.Results.{IsResult}

-- what lies between two numbers lies between equal ones
pub ends_same : {l h m n x : ℚ} → l ≈ℚ m → h ≈ℚ n → IsWithin m n x → IsWithin l h x
ends_same d e w = record { above = ≤ℚ_trans (≈ℚ-≤ℚ d) w.above; below = ≤ℚ_trans w.below (≈ℚ-≤ℚ (≈ℚ_sym e)) }

-- whether a number that is 0 is held tells whether 0 is
pub zero_told : (b : Bool) (low high z : ℚ) → z ≈ℚ zero_ℚ → MatchBool b (IsWithin low high z) ((z <ℚ low) ⊎ (high <ℚ z)) → MatchBool b (IsWithin low high zero_ℚ) (IsApartFromZero low high)
zero_told true low high z e h = IsWithin-same e h
zero_told false low high z e h = ⊎_elim (λ t. inl (≤ℚ-<ℚ_trans (≈ℚ-≤ℚ (≈ℚ_sym e)) t)) (λ t. inr (<ℚ-≤ℚ_trans t (≈ℚ-≤ℚ e))) h

module _ {Q : Type 0} (value : Q → ℚ) where
  pub low_held : (a : Ends Q) → IsProper value a → Holds value a (value a.low)
  low_held a p = record { above = ≤ℚ_refl (value a.low); below = p }

  pub high_held : (a : Ends Q) → IsProper value a → Holds value a (value a.high)
  high_held a p = record { above = p; below = ≤ℚ_refl (value a.high) }

  -- the four pairs of ends
  module _ (f : ℚ → ℚ → ℚ) (a b : Ends Q) (p : IsProper value a) (q : IsProper value b) (z : ℚ) where
    pub low_low : z ≈ℚ f (value a.low) (value b.low) → IsResult value f a b z
    low_low e = record { left = value a.low; right = value b.low; left_in = low_held a p; right_in = low_held b q; same = e }

    pub low_high : z ≈ℚ f (value a.low) (value b.high) → IsResult value f a b z
    low_high e = record { left = value a.low; right = value b.high; left_in = low_held a p; right_in = high_held b q; same = e }

    pub high_low : z ≈ℚ f (value a.high) (value b.low) → IsResult value f a b z
    high_low e = record { left = value a.high; right = value b.low; left_in = high_held a p; right_in = low_held b q; same = e }

    pub high_high : z ≈ℚ f (value a.high) (value b.high) → IsResult value f a b z
    high_high e = record { left = value a.high; right = value b.high; left_in = high_held a p; right_in = high_held b q; same = e }

  -- one of four results is a result
  pub one_of_four : (f : ℚ → ℚ → ℚ) (a b : Ends Q) (w x y z r : Q) → IsResult value f a b (value w) → IsResult value f a b (value x) → IsResult value f a b (value y) → IsResult value f a b (value z) → ((r ≡ w) ⊎ (r ≡ x)) ⊎ ((r ≡ y) ⊎ (r ≡ z)) → IsResult value f a b (value r)
  one_of_four f a b w x y z r h i j k =
      ⊎_elim (⊎_elim (λ e. rw e h) (λ e. rw e i)) (⊎_elim (λ e. rw e j) (λ e. rw e k))

  -- a number that is at most two numbers and one of them is the lesser, and likewise the greater
  pub lesser_is : (x y r : Q) → value r ≤ℚ value x → value r ≤ℚ value y → (r ≡ x) ⊎ (r ≡ y) → value r ≈ℚ min_ℚ (value x) (value y)
  lesser_is x y r h k one =
      let least = min_ℚ_least (value x) (value y) in
      ≤ℚ_antisymm (min_ℚ_above (value x) (value y) (value r) h k)
      (⊎_elim (λ (e : r ≡ x). rw e least.0) (λ (e : r ≡ y). rw e least.1) one)

  pub greater_is : (x y r : Q) → value x ≤ℚ value r → value y ≤ℚ value r → (r ≡ x) ⊎ (r ≡ y) → value r ≈ℚ max_ℚ (value x) (value y)
  greater_is x y r h k one =
      let greatest = max_ℚ_greatest (value x) (value y) in
      ≤ℚ_antisymm (⊎_elim (λ (e : r ≡ x). rw e greatest.0) (λ (e : r ≡ y). rw e greatest.1) one)
      (max_ℚ_below (value x) (value y) (value r) h k)
