-- Which unit a text is read as.
use Rattle.std.specs.Prelude.{◌≡◌, ℕ, List, Some}
use Rattle.ato_frac.specs.Fractions.{value_of}
use Rattle.ato_frac.specs.Numbers.{ten_to}
use Rattle.ato_rational.specs.Rational.{◌≈ℚ◌}
use Rattle.ato_units.specs.declared.units.Found.{Found}
use Rattle.ato_units.specs.declared.known.Known.{Known}
use Rattle.ato_units.specs.declared.units.Unit.{Unit}
use Rattle.ato_units.specs.Units.{Meaning, unit_of}

-- the unit of a text: of the dimension that the text means, with 10 to its power as the scale
pub record IsUnit (text : List ℕ) (unit : Unit) : Type 0 where
  pub meaning : Meaning
  pub read : unit_of text ≡ Some meaning
  pub dim : unit.dim.0 ≡ meaning.dim
  pub scale : value_of unit.scale ≈ℚ ten_to meaning.tens

-- what was found for a text
abbrev pub found_meaning : Found → Meaning
found_meaning f = record { dim = f.dim.0; tens = f.tens }

-- a unit that is known
abbrev pub known_meaning : Known → Meaning
known_meaning u = record { dim = u.dim.0; tens = u.tens }
