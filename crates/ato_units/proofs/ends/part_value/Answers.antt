use Rattle.std.proofs.Common.{Option, Some, subst, sym}
use Rattle.ato_frac.specs.declared.fraction.Frac.{Frac}
use Rattle.ato_units.specs.Quantities.{IsValue}
use Rattle.std.proofs.lemmas.Int.{to_z-of_z}
use mir.Syntax.{w32}
use Rattle.ato_units.specs.UnitReading.{known_meaning}
use Rattle.ato_units.proofs.Scales.{power_fits, passed_small}
use Rattle.ato_units.proofs.Values.{value_given}
use Rattle.ato_units.proofs.ends.part_value.Goals as goal

pub power_of_ten-scale-requires : goal.power_of_ten-scale-requires
power_of_ten-scale-requires c = passed_small _ c.args.unit.now.small

pub returns-in-Some : goal.returns-in-Some
returns-in-Some c =
    let value : IsValue (Some c.in-Some.number) (known_meaning c.args.unit.now) c.ok.result =
    value_given c.in-Some.number c.power_of_ten-scale.result (known_meaning c.args.unit.now) c.mul.result c.ok.result
    (rw (to_z-of_z w32 c.args.unit.now.tens (power_fits c.args.unit.now.tens c.args.unit.now.small)) at c.power_of_ten-scale.ensures)
    c.mul.ensures c.ok.ensures.value
    in
    subst (λ (o : Option Frac). IsValue o (known_meaning c.args.unit.now) c.ok.result) (sym c.in-Some.is) value
