-- What the parts of code stand for.
use Rattle.std.specs.Prelude.{Some, option_map}
use Rattle.ato_units.specs.declared.quantities.Part.{Part}
use Rattle.ato_units.specs.declared.quantities.WrittenPart.{WrittenPart}
use Rattle.ato_units.specs.declared.known.Known.{Known}
use Rattle.ato_units.specs.Units.{Meaning}
use Rattle.ato_units.specs.Quantities.{Written}

-- a part with its value
abbrev pub part_of : Part → Written
part_of p = record { number = Some p.value; unit = option_map (λ t. t.now) p.unit }

-- a part whose number may be too wide
abbrev pub written : WrittenPart → Written
written p = record { number = p.number; unit = option_map (λ t. t.now) p.unit }

-- two units
abbrev pub both_meanings : Known × Known → Meaning × Meaning
both_meanings u = (record { dim = u.0.dim.0; tens = u.0.tens }, record { dim = u.1.dim.0; tens = u.1.tens })
