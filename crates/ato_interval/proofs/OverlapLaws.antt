-- Intervals that overlap or touch: the values in one or the other, and those in both.
use Rattle.std.proofs.Common.{◌≡◌, ◌⊎◌, inl, inr, ⊎_elim, ◌↔◌, Option, Some, None}
use Rattle.std.specs.Prelude.{MatchOption}
use Rattle.ato_rational.specs.Rational.{ℚ, ◌≤ℚ◌, ◌<ℚ◌}
use Rattle.ato_rational.specs.Ranges.{IsWithin}
use Rattle.ato_rational.proofs.Order.{≤ℚ_trans, ≤ℚ_or_<ℚ, <ℚ-≤ℚ, clash_ℚ}
use Rattle.ato_interval.specs.Ends.{Ends, Holds, IsProper}

module _ {Q : Type 0} (value : Q → ℚ) (a b : Ends Q) where
  -- b begins in a, and high is the greater of the high ends
  pub through_values : (high : Q) → value a.low ≤ℚ value b.low → value b.low ≤ℚ value a.high → value a.high ≤ℚ value high → value b.high ≤ℚ value high → (high ≡ a.high) ⊎ (high ≡ b.high) → (x : ℚ) → IsWithin (value a.low) (value high) x ↔ (Holds value a x ⊎ Holds value b x)
  through_values high begins touches own other one x = (
    λ w.
        ⊎_elim
        (λ in_a. inl (record { above = w.above; below = in_a }))
        (λ past.
        ⊎_elim
        (λ e. absurd (clash_ℚ past (rw e at w.below)))
        (λ e. inr (record { above = ≤ℚ_trans touches (<ℚ-≤ℚ past); below = rw e at w.below }))
        one)
        (≤ℚ_or_<ℚ x (value a.high)),
    ⊎_elim
        (λ w. record { above = w.above; below = ≤ℚ_trans w.below own })
        (λ w. record { above = ≤ℚ_trans begins w.above; below = ≤ℚ_trans w.below other }),
  )

  -- low is the greater of the low ends, and high the lesser of the high ends
  module _ (low high : Q) (low_a : value a.low ≤ℚ value low) (low_b : value b.low ≤ℚ value low) (low_is : (low ≡ a.low) ⊎ (low ≡ b.low)) (high_a : value high ≤ℚ value a.high) (high_b : value high ≤ℚ value b.high) (high_is : (high ≡ a.high) ⊎ (high ≡ b.high)) where
    both_within : (x : ℚ) → Holds value a x → Holds value b x → IsWithin (value low) (value high) x
    both_within x w v = record {
      above = ⊎_elim (λ e. rw e w.above) (λ e. rw e v.above) low_is;
      below = ⊎_elim (λ e. rw e w.below) (λ e. rw e v.below) high_is;
    }

    pub common_told : (o : Option (Ends Q)) → MatchOption o (value high <ℚ value low) (λ r. IsProper value r × (r.low ≡ low) × (r.high ≡ high)) → MatchOption o ((x : ℚ) → Holds value a x → ¬ Holds value b x) (λ r. IsProper value r × ((x : ℚ) → Holds value r x ↔ (Holds value a x × Holds value b x)))
    common_told None h = λ x w v. let both = both_within x w v in clash_ℚ h (≤ℚ_trans both.above both.below)
    common_told (Some r) t = (
      t.0,
      λ x. (
        λ w.
            let above = rw t.1 at w.above in
            let below = rw t.2 at w.below in
            (record { above = ≤ℚ_trans low_a above; below = ≤ℚ_trans below high_a }, record { above = ≤ℚ_trans low_b above; below = ≤ℚ_trans below high_b }),
        λ both. rw (t.1, t.2) (both_within x both.0 both.1),
      ),
    )
