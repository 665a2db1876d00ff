use Rattle.std.proofs.Common.{sym, refl}
use Rattle.std.proofs.lemmas.Int.{to_z-of_z}
use mir.Syntax.{w32}
use Rattle.ato_units.specs.UnitReading.{known_meaning}
use Rattle.ato_units.proofs.Scales.{power_fits, passed_small}
use Rattle.ato_units.proofs.units.read_unit.Goals as goal

pub power_of_ten-requires : goal.power_of_ten-requires
power_of_ten-requires c = passed_small _ c.in-Some.known.small

pub returns-in-Some : goal.returns-in-Some
returns-in-Some c =
    record {
      meaning = known_meaning c.in-Some.known;
      read = sym c.in-Some.ensures;
      dim = refl;
      scale = rw (to_z-of_z w32 c.in-Some.known.tens (power_fits c.in-Some.known.tens c.in-Some.known.small)) at c.power_of_ten.ensures;
    }
