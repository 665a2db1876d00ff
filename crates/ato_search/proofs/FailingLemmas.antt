-- Ends of one row that lie outside the target.
use Rattle.std.proofs.Common.{[], ◌∷◌, refl, inl, inr, ⊎_elim, arith}
use Rattle.std.proofs.lemmas.List.Elements.{All-from_recursion}
use Rattle.ato_rational.specs.Rational.{ℚ, ◌≈ℚ◌, ◌≤ℚ◌, ◌<ℚ◌, zero_ℚ, one_ℚ}
use Rattle.ato_rational.proofs.Order.{≤ℚ_refl, ≤ℚ_trans, ≈ℚ-≤ℚ, ≈ℚ_sym, <ℚ-≤ℚ, ≤ℚ_or_<ℚ}
use Rattle.ato_rational.proofs.Fields.{zero_below_one}
use Rattle.ato_frac.specs.declared.fraction.Frac.{Frac}
use Rattle.ato_frac.specs.Fractions.{value_of}
use Rattle.ato_cert.specs.declared.problem.Row.{Row}
use Rattle.ato_cert.specs.declared.problem.Slot.{Slot}
use Rattle.ato_cert.specs.Selection.{at_low, at_high, IsHull, FailsAt}
use Rattle.ato_cert.specs.Justified.{LiesInTarget}

hull_of_one : (point : Frac) → IsHull (point ∷ []) point point
hull_of_one point = record {
  has_least = (0, omega arith, refl);
  has_greatest = (0, omega arith, refl);
  above = All-from_recursion (λ other. value_of point ≤ℚ value_of other) (point ∷ []) (≤ℚ_refl (value_of point), tt);
  below = All-from_recursion (λ other. value_of other ≤ℚ value_of point) (point ∷ []) (≤ℚ_refl (value_of point), tt);
}

pub low_end_fails : (slot : Slot) (row : Row) (t : Frac) → value_of t ≈ℚ zero_ℚ → value_of row.low <ℚ value_of slot.low → FailsAt slot (row ∷ []) t
low_end_fails slot row t zero lt = record {
  some = omega arith;
  fraction = record { above = ≈ℚ-≤ℚ (≈ℚ_sym zero); below = ≤ℚ_trans (≈ℚ-≤ℚ zero) (<ℚ-≤ℚ zero_below_one) };
  points = row.low ∷ [];
  selected = (at_low zero refl, tt);
  least = row.low;
  greatest = row.low;
  hull = hull_of_one row.low;
  outside = inl lt;
}

pub high_end_fails : (slot : Slot) (row : Row) (t : Frac) → value_of t ≈ℚ one_ℚ → value_of slot.high <ℚ value_of row.high → FailsAt slot (row ∷ []) t
high_end_fails slot row t one lt = record {
  some = omega arith;
  fraction = record { above = ≤ℚ_trans (<ℚ-≤ℚ zero_below_one) (≈ℚ-≤ℚ (≈ℚ_sym one)); below = ≈ℚ-≤ℚ one };
  points = row.high ∷ [];
  selected = (at_high one refl, tt);
  least = row.high;
  greatest = row.high;
  hull = hull_of_one row.high;
  outside = inr lt;
}

-- a range outside the target whose low end is no less than the target's has its high end above
pub high_end_outside : (slot : Slot) (row : Row) → ¬ LiesInTarget slot row → value_of slot.low ≤ℚ value_of row.low → value_of slot.high <ℚ value_of row.high
high_end_outside slot row out le =
    ⊎_elim (λ below. absurd (out (record { above = le; below = below }))) (λ lt. lt) (≤ℚ_or_<ℚ (value_of row.high) (value_of slot.high))

-- a value that is not at least another is less
pub less_since : {x y : ℚ} → ¬ (y ≤ℚ x) → x <ℚ y
less_since {x} {y} out = ⊎_elim (λ le. absurd (out le)) (λ lt. lt) (≤ℚ_or_<ℚ y x)
