-- Whether a value lies in a target can be told, and values that are equal lie in it alike.
use Rattle.std.proofs.Common.{List, [], ◌∷◌, subst, ◌⊎◌, inl, inr, ⊎_elim}
use Rattle.ato_base.proofs.ClassLaws.{cases, first, later, nowhere}
use Rattle.ato_rational.specs.Rational.{ℚ, ◌≈ℚ◌, ◌≤ℚ◌, ◌<ℚ◌}
use Rattle.ato_rational.specs.Ranges.{IsWithin}
use Rattle.ato_rational.proofs.Order.{≤ℚ_or_<ℚ, clash_ℚ, IsWithin-same}
use Rattle.ato_frac.specs.declared.fraction.Frac.{Frac}
use Rattle.ato_frac.specs.Fractions.{value_of}
use Rattle.ato_expr.specs.Values.{LiesIn}

pub lies_told : (target : List (Frac × Frac)) (x : ℚ) → LiesIn target x ⊎ (¬ LiesIn target x)
lies_told [] x = inr (λ l. nowhere l.range l.one)
lies_told (p ∷ ps) x =
    ⊎_elim
    (λ (l : LiesIn ps x). inl (record { range = l.range; one = later p l.range ps l.one; inside = l.inside }))
    (λ (none : ¬ LiesIn ps x). with_first none)
    (lies_told ps x)
  where
    neither : ¬ LiesIn ps x → ¬ IsWithin (value_of p.0) (value_of p.1) x → ¬ LiesIn (p ∷ ps) x
    neither none out l =
        elim (cases p l.range ps l.one) [
          | inl e ↦ out (subst (λ (r : Frac × Frac). IsWithin (value_of r.0) (value_of r.1) x) e l.inside)
          | inr more ↦ none (record { range = l.range; one = more; inside = l.inside })
        ]

    above : ¬ LiesIn ps x → value_of p.0 ≤ℚ x → LiesIn (p ∷ ps) x ⊎ (¬ LiesIn (p ∷ ps) x)
    above none low =
        ⊎_elim
        (λ (high : x ≤ℚ value_of p.1). inl (record { range = p; one = first p ps; inside = record { above = low; below = high } }))
        (λ (high : value_of p.1 <ℚ x). inr (neither none (λ w. clash_ℚ high w.below)))
        (≤ℚ_or_<ℚ x (value_of p.1))

    with_first : ¬ LiesIn ps x → LiesIn (p ∷ ps) x ⊎ (¬ LiesIn (p ∷ ps) x)
    with_first none =
        ⊎_elim
        (λ (low : value_of p.0 ≤ℚ x). above none low)
        (λ (low : x <ℚ value_of p.0). inr (neither none (λ w. clash_ℚ low w.above)))
        (≤ℚ_or_<ℚ (value_of p.0) x)

pub lies_same : (target : List (Frac × Frac)) {x y : ℚ} → x ≈ℚ y → LiesIn target x → LiesIn target y
lies_same target e l = record { range = l.range; one = l.one; inside = IsWithin-same e l.inside }
