-- Values of parts, and relative tolerances.
use Rattle.std.proofs.Common.{◌≡◌, Bool, true, false, Option, Some, None, Result, Ok, Err, MatchOption, MatchResult, Ordering, Less, Equal, Greater, sym, subst, arith, if◌then◌else◌}
use Rattle.std.specs.Result.{result_ok}
use Rattle.std.specs.Bool.{◌==◌}
use Rattle.std.specs.Ordering.{ordering_index}
use Rattle.ato_frac.specs.declared.faults.NumFault.{NumFault}
use Rattle.ato_frac.specs.declared.faults.NumFault.TheVariants.{Wide}
use Rattle.ato_frac.specs.declared.fraction.Frac.{Frac}
use Rattle.ato_frac.specs.Fractions.{value_of, CanMultiply}
use Rattle.ato_frac.specs.Numbers.{ten_to}
use Rattle.ato_frac.specs.Range.{IsInRange}
use Rattle.ato_frac.specs.OneNumber.{fraction_same}
use Rattle.ato_frac.proofs.Ranges.{in_range}
use Rattle.ato_frac.proofs.Scaled.{range_moved}
use Rattle.ato_rational.specs.Rational.{ℚ, ◌≈ℚ◌, ◌≤ℚ◌, ◌<ℚ◌, Orders, ◌*ℚ◌, neg_ℚ, abs_ℚ, le_ℚ}
use Rattle.ato_rational.proofs.Order.{≤ℚ_trans, ≤ℚ_antisymm, ≈ℚ-≤ℚ, <ℚ-≤ℚ, ≈ℚ_refl, ≈ℚ_sym, ≈ℚ_trans, *ℚ_same, neg_ℚ_same}
use Rattle.ato_rational.proofs.RationalRing.{rat, minus, same}
use Rattle.ato_rational.proofs.Extremes.{abs_ℚ_below, max_ℚ_greatest}
use Rattle.ato_units.proofs.Scales.{opposite_small}
use Rattle.ato_units.specs.Units.{Meaning}
use Rattle.ato_units.specs.Quantities.{IsValue, AreAround, AreRelative, PartFault, units_of, Written, Gives}
use Rattle.ato_units.specs.declared.quantities.Form.{Form}
use Rattle.ato_units.specs.declared.quantities.Quantity.{Quantity}

pub value_given : (number scale : Frac) (unit : Meaning) (r : Result Frac NumFault) (v : Option Frac) → value_of scale ≈ℚ ten_to unit.tens
    → MatchResult r (λ f. CanMultiply number scale × (value_of f ≈ℚ value_of number *ℚ value_of scale)) (λ e. (e ≡ Wide) × ¬ CanMultiply number scale)
    → v ≡ result_ok r → IsValue (Some number) unit v
value_given number scale unit (Ok f) v e h k = rw k (≈ℚ_trans h.1 (*ℚ_same (≈ℚ_refl (value_of number)) e))
value_given number scale unit (Err w) v e h k = rw k (λ g. h.1 (range_moved _ _ (≈ℚ_sym (*ℚ_same (≈ℚ_refl (value_of number)) e)) g))

opposite_in_range : (x : ℚ) → IsInRange (neg_ℚ x) → IsInRange x
opposite_in_range x r =
    record {
      terms = neg_ℚ r.terms;
      same = ≈ℚ_trans (neg_ℚ_same r.same) (same (minus (minus (rat x))) (rat x) (omega arith));
      small = opposite_small r.terms r.small;
    }

-- a size is in range only where the value is
pub size_in_range : (w : Frac) (x : ℚ) → value_of w ≈ℚ abs_ℚ x → IsInRange x
size_in_range w x e = by (le_ℚ x (neg_ℚ x)) (in_range w (abs_ℚ x) e)
  where
    by : (b : Bool) → IsInRange (if b then neg_ℚ x else x) → IsInRange x
    by true r = opposite_in_range x r
    by false r = r

abs_ℚ_rises : {x y : ℚ} → x ≈ℚ y → abs_ℚ x ≤ℚ abs_ℚ y
abs_ℚ_rises {x} {y} e =
    abs_ℚ_below x (abs_ℚ y)
    (≤ℚ_trans (≈ℚ-≤ℚ e) (max_ℚ_greatest y (neg_ℚ y)).0)
    (≤ℚ_trans (≈ℚ-≤ℚ (neg_ℚ_same e)) (max_ℚ_greatest y (neg_ℚ y)).1)

pub abs_ℚ_same : {x y : ℚ} → x ≈ℚ y → abs_ℚ x ≈ℚ abs_ℚ y
abs_ℚ_same e = ≤ℚ_antisymm (abs_ℚ_rises e) (abs_ℚ_rises (≈ℚ_sym e))

pub no_relative : (n t : Frac) → ¬ CanMultiply n t → (low high : Frac) → ¬ AreRelative n t low high
no_relative n t h low high q = h (size_in_range q.w (value_of n *ℚ value_of t) q.size)

pub relative_given : (n t w : Frac) (r : Option (Frac × Frac)) → value_of w ≈ℚ abs_ℚ (value_of n *ℚ value_of t)
    → MatchOption r ((low high : Frac) → ¬ AreAround n w low high) (λ e. AreAround n w e.0 e.1)
    → MatchOption r ((low high : Frac) → ¬ AreRelative n t low high) (λ e. AreRelative n t e.0 e.1)
relative_given n t w None e h = λ low high q. h low high (subst (λ (v : Frac). AreAround n v low high) (fraction_same q.w w (≈ℚ_trans q.size (≈ℚ_sym e))) q.around)
relative_given n t w (Some r) e h = record { w = w; size = e; around = h }

-- the units of parts, whose own units are given
pub units_given : {r s : Bool} {a b c d : Option (Option Meaning)} {answer : Result (Meaning × Meaning) PartFault} → r ≡ s → a ≡ b → c ≡ d → units_of r a c ≡ answer → units_of s b d ≡ answer
units_given e f g h = rw (sym e, sym f, sym g) h

-- what a comparison with the greater of two answers means
pub above_if : (x y : ℚ) (o : Ordering) (b : Bool) → Orders x y o → b ≡ (ordering_index o == 2) → b ≡ true → y <ℚ x
above_if x y Less b h e f = absurd (cc)
above_if x y Equal b h e f = absurd (cc)
above_if x y Greater b h e f = h

pub at_most_if : (x y : ℚ) (o : Ordering) (b : Bool) → Orders x y o → b ≡ (ordering_index o == 2) → b ≡ false → x ≤ℚ y
at_most_if x y Less b h e f = <ℚ-≤ℚ h
at_most_if x y Equal b h e f = ≈ℚ-≤ℚ h
at_most_if x y Greater b h e f = absurd (cc)

pub gives_same : {form : Form} {p q u v : Written} {answer : Result Quantity PartFault} → p ≡ u → q ≡ v → Gives form p q answer → Gives form u v answer
gives_same e f h = rw (sym e, sym f) h
