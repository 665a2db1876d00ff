use Rattle.std.proofs.Common.{refl, sym, subst, Bool}
use Rattle.ato_units.specs.Quantities.{unit_fault, first_wide, second_wide, ends_wide, empty, ends, AreEnds}
use Rattle.ato_units.proofs.Values.{units_given, above_if, at_most_if}
use Rattle.ato_units.proofs.quantities.from_parts.Goals as goal

pub returns-in-Err : goal.returns-in-Err
returns-in-Err c = unit_fault (units_given c.is_relative-relative.ensures c.own_unit.ensures c.own_unit-2.ensures c.in-Err.ensures) refl

pub returns-in_default : goal.returns-in_default
returns-in_default c = first_wide (units_given c.is_relative-relative.ensures c.own_unit.ensures c.own_unit-2.ensures c.in-Ok.ensures) c.in_default.ensures refl

pub returns-in_default-part_value : goal.returns-in_default-part_value
returns-in_default-part_value c =
    second_wide c.in-Some.n (units_given c.is_relative-relative.ensures c.own_unit.ensures c.own_unit-2.ensures c.in-Ok.ensures)
    c.in-Some.ensures c.in_default-part_value.ensures refl

pub returns-in_default-ends : goal.returns-in_default-ends
returns-in_default-ends c =
    ends_wide c.in-Some.n c.in-Some-part_value.t (units_given c.is_relative-relative.ensures c.own_unit.ensures c.own_unit-2.ensures c.in-Ok.ensures)
    c.in-Some.ensures c.in-Some-part_value.ensures
    (λ low high e.
    c.in_default-ends.ensures low high
    (subst (λ (r : Bool). AreEnds c.args.form r c.in-Some.n c.in-Some-part_value.t low high) (sym c.is_relative-relative.ensures) e))
    refl

pub returns-then-eq : goal.returns-then-eq
returns-then-eq c =
    empty c.in-Some.n c.in-Some-part_value.t c.in-Some-ends.low c.in-Some-ends.high (units_given c.is_relative-relative.ensures c.own_unit.ensures c.own_unit-2.ensures c.in-Ok.ensures)
    c.in-Some.ensures c.in-Some-part_value.ensures
    (subst (λ (r : Bool). AreEnds c.args.form r c.in-Some.n c.in-Some-part_value.t c.in-Some-ends.low c.in-Some-ends.high) c.is_relative-relative.ensures c.in-Some-ends.ensures)
    (above_if _ _ c.compare.result c.eq.result c.compare.ensures.order c.eq.ensures c.if-eq.true) refl

pub returns : goal.returns
returns c =
    ends c.in-Some.n c.in-Some-part_value.t _ (units_given c.is_relative-relative.ensures c.own_unit.ensures c.own_unit-2.ensures c.in-Ok.ensures)
    c.in-Some.ensures c.in-Some-part_value.ensures
    (subst (λ (r : Bool). AreEnds c.args.form r c.in-Some.n c.in-Some-part_value.t c.in-Some-ends.low c.in-Some-ends.high) c.is_relative-relative.ensures c.in-Some-ends.ensures)
    (at_most_if _ _ c.compare.result c.eq.result c.compare.ensures.order c.eq.ensures c.if-eq.false) refl refl
