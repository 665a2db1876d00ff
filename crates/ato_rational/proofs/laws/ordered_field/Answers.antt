use Rattle.ato_rational.specs.OrderedField.{IsEquality, IsField, IsOrder, AreExtremes}
use Rattle.ato_rational.proofs.Extremes.{min_ℚ_least, max_ℚ_greatest, abs_ℚ_is}
use Rattle.ato_rational.proofs.Fields.{+ℚ_comm, +ℚ_assoc, +ℚ_zero, +ℚ_neg, *ℚ_assoc, *ℚ_one, *ℚ_+ℚ, zero_below_one, inverse_ℚ_same}
use Rattle.ato_rational.proofs.Order.{≈ℚ_refl, ≈ℚ_sym, ≈ℚ_trans, +ℚ_same, neg_ℚ_same, *ℚ_same, *ℚ_comm, ≤ℚ_refl, ≤ℚ_trans, ≤ℚ_antisymm, ≤ℚ_or_<ℚ, <ℚ-≤ℚ, clash_ℚ, ≈ℚ-≤ℚ, +ℚ_mono, *ℚ_mono}
use Rattle.ato_rational.proofs.Quotients.{quotient_times}
use Rattle.ato_rational.proofs.laws.ordered_field.Goals as goal

equality : IsEquality
equality =
    record {
      itself = ≈ℚ_refl;
      turned = λ x y e. ≈ℚ_sym e;
      chained = λ x y z d e. ≈ℚ_trans d e;
      sums = λ x y z w d e. +ℚ_same d e;
      opposites = λ x y e. neg_ℚ_same e;
      products = λ x y z w d e. *ℚ_same d e;
      inverses = inverse_ℚ_same;
    }

field : IsField
field =
    record {
      sums_turn = +ℚ_comm;
      sums_group = +ℚ_assoc;
      zero = +ℚ_zero;
      opposite = +ℚ_neg;
      products_turn = *ℚ_comm;
      products_group = *ℚ_assoc;
      one = *ℚ_one;
      distributes = *ℚ_+ℚ;
      quotient = quotient_times;
    }

order : IsOrder
order =
    record {
      itself = ≤ℚ_refl;
      chained = λ x y z h k. ≤ℚ_trans h k;
      both_ways = λ x y h k. ≤ℚ_antisymm h k;
      total = ≤ℚ_or_<ℚ;
      strict = λ x y h. (<ℚ-≤ℚ h, λ k. clash_ℚ h k);
      of_equals = λ x y e. ≈ℚ-≤ℚ e;
      sums = λ x y z w h k. +ℚ_mono h k;
      products = λ x y z s h. *ℚ_mono z s h;
      one = zero_below_one;
    }

extremes : AreExtremes
extremes =
    record {
      least = min_ℚ_least;
      greatest = max_ℚ_greatest;
      absolute = abs_ℚ_is;
      power_none = λ x. ≈ℚ_refl _;
      power_more = λ x k. ≈ℚ_refl _;
    }

pub returns : goal.returns
returns c = record { equality = equality; field = field; order = order; extremes = extremes }
