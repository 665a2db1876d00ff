-- The point that a fraction selects in a row's range: there is one at most.
use Rattle.std.proofs.Common.{◌≡◌, Option, Some, None, MatchOption, sym, subst, ◌∙◌}
use Rattle.ato_rational.specs.Rational.{ℚ, ◌≈ℚ◌, ◌<ℚ◌, ◌+ℚ◌, ◌-ℚ◌, ◌*ℚ◌, zero_ℚ, one_ℚ}
use Rattle.ato_rational.specs.Ranges.{IsWithin}
use Rattle.ato_rational.proofs.Order.{≤ℚ_trans, <ℚ-≤ℚ, ≈ℚ-≤ℚ, ≈ℚ_sym, ≈ℚ_trans, clash_ℚ}
use Rattle.ato_rational.proofs.Fields.{zero_below_one}
use Rattle.ato_frac.specs.declared.fraction.Frac.{Frac}
use Rattle.ato_frac.specs.Fractions.{value_of, CanSubtract, CanAdd, CanMultiply}
use Rattle.ato_frac.specs.OneNumber.{fraction_same}
use Rattle.ato_cert.specs.declared.problem.Row.{Row}
use Rattle.ato_cert.specs.Selection.{IsBetween, IsSelected, at_low, at_high, between}

-- two fractions of one value are one
given_same : (x y : Frac) (value : ℚ) → value_of x ≈ℚ value → value_of y ≈ℚ value → x ≡ y
given_same x y value d e = fraction_same x y (≈ℚ_trans d (≈ℚ_sym e))

-- each step to a point between the ends has one result

width_same : {t : Frac} {row : Row} {point : Frac} (width : Frac) → value_of width ≈ℚ value_of row.high -ℚ value_of row.low
    → (b : IsBetween t row point) → b.width ≡ width
width_same {t} {row} {point} width w b = given_same b.width width (value_of row.high -ℚ value_of row.low) b.width_is w

part_same : {t : Frac} {row : Row} {point : Frac} (width part : Frac) → value_of width ≈ℚ value_of row.high -ℚ value_of row.low
    → value_of part ≈ℚ value_of t *ℚ value_of width → (b : IsBetween t row point) → b.part ≡ part
part_same {t} {row} {point} width part w p b =
    let part_is : value_of b.part ≈ℚ value_of t *ℚ value_of width =
    subst (λ (x : Frac). value_of b.part ≈ℚ value_of t *ℚ value_of x) (width_same width w b) b.part_is in
    given_same b.part part (value_of t *ℚ value_of width) part_is p

between_same : {t : Frac} {row : Row} {x y : Frac} → IsBetween t row x → IsBetween t row y → x ≡ y
between_same {t} {row} {x} {y} a b =
    let point_is : value_of y ≈ℚ value_of row.low +ℚ value_of a.part =
    subst (λ (part : Frac). value_of y ≈ℚ value_of row.low +ℚ value_of part) (part_same a.width a.part a.width_is a.part_is b) b.point_is in
    given_same x y (value_of row.low +ℚ value_of a.part) a.point_is point_is

-- where a step is refused, there is no point

pub no_part : {t : Frac} {row : Row} (width : Frac) → value_of width ≈ℚ value_of row.high -ℚ value_of row.low
    → ¬ CanMultiply t width → (point : Frac) → ¬ IsBetween t row point
no_part {t} {row} width w refused point b =
    refused (subst (λ (x : Frac). CanMultiply t x) (width_same width w b) b.can_multiply)

no_sum : {t : Frac} {row : Row} (width part : Frac) → value_of width ≈ℚ value_of row.high -ℚ value_of row.low
    → value_of part ≈ℚ value_of t *ℚ value_of width → ¬ CanAdd row.low part → (point : Frac) → ¬ IsBetween t row point
no_sum {t} {row} width part w p refused point b =
    refused (subst (λ (x : Frac). CanAdd row.low x) (part_same width part w p b) b.can_add)

-- the last step gives the point, or shows that there is none
pub sum_between : (t : Frac) (row : Row) (width part : Frac) → CanSubtract row.high row.low → value_of width ≈ℚ value_of row.high -ℚ value_of row.low
    → CanMultiply t width → value_of part ≈ℚ value_of t *ℚ value_of width
    → (r : Option Frac) → MatchOption r (¬ CanAdd row.low part) (λ point. CanAdd row.low part × (value_of point ≈ℚ value_of row.low +ℚ value_of part))
    → MatchOption r ((point : Frac) → ¬ IsBetween t row point) (IsBetween t row)
sum_between t row width part d w m p None refused = no_sum width part w p refused
sum_between t row width part d w m p (Some point) s = record {
  width = width;
  part = part;
  can_subtract = d;
  width_is = w;
  can_multiply = m;
  part_is = p;
  can_add = s.0;
  point_is = s.1;
}

-- a value is at most one of 0, 1 and between them

not_both : {x : ℚ} → x ≈ℚ zero_ℚ → x ≈ℚ one_ℚ → ⊥
not_both z o = clash_ℚ zero_below_one (≈ℚ-≤ℚ (≈ℚ_trans (≈ℚ_sym o) z))

zero_not_above : {x : ℚ} → x ≈ℚ zero_ℚ → zero_ℚ <ℚ x → ⊥
zero_not_above z lt = clash_ℚ lt (≈ℚ-≤ℚ z)

one_not_below : {x : ℚ} → x ≈ℚ one_ℚ → x <ℚ one_ℚ → ⊥
one_not_below o lt = clash_ℚ lt (≈ℚ-≤ℚ (≈ℚ_sym o))

-- a fraction selects one point of a row at most
pub selected_same : (t : Frac) (row : Row) (x y : Frac) → IsSelected t row x → IsSelected t row y → x ≡ y
selected_same t row x y (at_low z e) (at_low z' d) = e ∙ sym d
selected_same t row x y (at_low z e) (at_high o d) = absurd (not_both z o)
selected_same t row x y (at_low z e) (between lt lt' b) = absurd (zero_not_above z lt)
selected_same t row x y (at_high o e) (at_low z d) = absurd (not_both z o)
selected_same t row x y (at_high o e) (at_high o' d) = e ∙ sym d
selected_same t row x y (at_high o e) (between lt lt' b) = absurd (one_not_below o lt')
selected_same t row x y (between lt lt' a) (at_low z d) = absurd (zero_not_above z lt)
selected_same t row x y (between lt lt' a) (at_high o d) = absurd (one_not_below o lt')
selected_same t row x y (between lt lt' a) (between ht ht' b) = between_same a b

-- and none where it is not from 0 to 1
pub selecting_within : {t : Frac} {row : Row} {point : Frac} → IsSelected t row point → IsWithin zero_ℚ one_ℚ (value_of t)
selecting_within {t} {row} {point} (at_low z e) =
    record { above = ≈ℚ-≤ℚ (≈ℚ_sym z); below = ≤ℚ_trans (≈ℚ-≤ℚ z) (<ℚ-≤ℚ zero_below_one) }
selecting_within {t} {row} {point} (at_high o e) =
    record { above = ≤ℚ_trans (<ℚ-≤ℚ zero_below_one) (≈ℚ-≤ℚ (≈ℚ_sym o)); below = ≈ℚ-≤ℚ o }
selecting_within {t} {row} {point} (between lt lt' b) = record { above = <ℚ-≤ℚ lt; below = <ℚ-≤ℚ lt' }

-- for a fraction above 0 and below 1 the points are those between the ends

only_between : {t : Frac} {row : Row} {point : Frac} → zero_ℚ <ℚ value_of t → value_of t <ℚ one_ℚ → IsSelected t row point → IsBetween t row point
only_between {t} {row} {point} lt lt' (at_low z e) = absurd (zero_not_above z lt)
only_between {t} {row} {point} lt lt' (at_high o e) = absurd (one_not_below o lt')
only_between {t} {row} {point} lt lt' (between _ _ b) = b

pub between_selected : (t : Frac) (row : Row) → zero_ℚ <ℚ value_of t → value_of t <ℚ one_ℚ
    → (r : Option Frac) → MatchOption r ((point : Frac) → ¬ IsBetween t row point) (IsBetween t row)
    → MatchOption r ((point : Frac) → ¬ IsSelected t row point) (IsSelected t row)
between_selected t row lt lt' None none = λ point s. none point (only_between lt lt' s)
between_selected t row lt lt' (Some point) b = between lt lt' b
