-- The texts of units, with what they mean.
use Rattle.std.specs.Prelude.{◌≡◌, ℕ, ℤ, pos, neg_ℤ, ◌+ℤ◌, Bool, true, ◌&&◌, not, List, [], ◌∷◌, ◌++◌, map, codes, Option, Some, None, option_map, if◌then◌else◌}
use Rattle.std.specs.List.{list_any}
use Rattle.std.specs.Option.{option_or}
use Rattle.std.specs.Str.{bytes_eq}
use Rattle.ato_units.specs.Dimensions.{no_dimension, length_dim, mass_dim, time_dim, current_dim, temperature_dim, voltage_dim, resistance_dim, capacitance_dim, inductance_dim, power_dim, energy_dim, frequency_dim, charge_dim, conductance_dim}

-- a unit: its dimension, and the power of ten that its scale is in base units
pub record Meaning : Type 0 where
  pub dim : List ℤ
  pub tens : ℤ

-- a text of a unit, with what it means
pub record Named : Type 0 where
  pub text : List ℕ
  pub meaning : Meaning

-- a prefix, with the power of ten that it stands for
pub record Prefix : Type 0 where
  pub text : List ℕ
  pub tens : ℤ

-- a unit that is a base unit, or a product of powers of base units
abbrev pub coherent : List ℕ → List ℤ → Named
coherent text dim = record { text = text; meaning = record { dim = dim; tens = pos 0 } }

-- a unit that is a power of ten of such a one
abbrev pub scaled : List ℕ → List ℤ → ℤ → Named
scaled text dim tens = record { text = text; meaning = record { dim = dim; tens = tens } }

-- the names before which a prefix may stand; the ohm is also U+03A9 and U+2126
unfoldable pub prefixable : List Named
prefixable =
    coherent (codes "V") voltage_dim
    ∷ coherent (codes "A") current_dim
    ∷ coherent (codes "ohm") resistance_dim
    ∷ coherent (0xCE ∷ 0xA9 ∷ []) resistance_dim
    ∷ coherent (0xE2 ∷ 0x84 ∷ 0xA6 ∷ []) resistance_dim
    ∷ coherent (codes "F") capacitance_dim
    ∷ coherent (codes "H") inductance_dim
    ∷ coherent (codes "W") power_dim
    ∷ coherent (codes "Hz") frequency_dim
    ∷ coherent (codes "s") time_dim
    ∷ coherent (codes "C") charge_dim
    ∷ coherent (codes "S") conductance_dim
    ∷ coherent (codes "J") energy_dim
    ∷ coherent (codes "m") length_dim
    ∷ scaled (codes "g") mass_dim (neg_ℤ (pos 3))
    ∷ coherent (codes "K") temperature_dim
    ∷ []

-- the names that stand alone
unfoldable pub whole_only : List Named
whole_only =
    coherent (codes "volt") voltage_dim
    ∷ coherent (codes "volts") voltage_dim
    ∷ coherent (codes "amp") current_dim
    ∷ coherent (codes "amps") current_dim
    ∷ coherent (codes "ampere") current_dim
    ∷ coherent (codes "amperes") current_dim
    ∷ coherent (codes "ohms") resistance_dim
    ∷ coherent (codes "farad") capacitance_dim
    ∷ coherent (codes "farads") capacitance_dim
    ∷ coherent (codes "henry") inductance_dim
    ∷ coherent (codes "henries") inductance_dim
    ∷ coherent (codes "watt") power_dim
    ∷ coherent (codes "watts") power_dim
    ∷ coherent (codes "hertz") frequency_dim
    ∷ coherent (codes "second") time_dim
    ∷ coherent (codes "seconds") time_dim
    ∷ coherent (codes "kelvin") temperature_dim
    ∷ coherent (codes "meter") length_dim
    ∷ coherent (codes "meters") length_dim
    ∷ scaled (codes "percent") no_dimension (neg_ℤ (pos 2))
    ∷ scaled (codes "%") no_dimension (neg_ℤ (pos 2))
    ∷ scaled (codes "ppm") no_dimension (neg_ℤ (pos 6))
    ∷ []

-- the prefixes; micro is also U+00B5 and U+03BC
unfoldable pub prefixes : List Prefix
prefixes =
    record { text = codes "f"; tens = neg_ℤ (pos 15) }
    ∷ record { text = codes "p"; tens = neg_ℤ (pos 12) }
    ∷ record { text = codes "n"; tens = neg_ℤ (pos 9) }
    ∷ record { text = codes "u"; tens = neg_ℤ (pos 6) }
    ∷ record { text = 0xC2 ∷ 0xB5 ∷ []; tens = neg_ℤ (pos 6) }
    ∷ record { text = 0xCE ∷ 0xBC ∷ []; tens = neg_ℤ (pos 6) }
    ∷ record { text = codes "m"; tens = neg_ℤ (pos 3) }
    ∷ record { text = codes "k"; tens = pos 3 }
    ∷ record { text = codes "M"; tens = pos 6 }
    ∷ record { text = codes "G"; tens = pos 9 }
    ∷ record { text = codes "T"; tens = pos 12 }
    ∷ []

-- a multiple of a unit by a power of ten
abbrev pub scaled_by : ℤ → Meaning → Meaning
scaled_by tens m = record { dim = m.dim; tens = tens +ℤ m.tens }

-- a prefix before a name
abbrev pub prefixed : Prefix → Named → Named
prefixed p u = record { text = p.text ++ u.text; meaning = scaled_by p.tens u.meaning }

-- the names, which are read whole
unfoldable pub names : List Named
names = prefixable ++ whole_only

-- each of the prefixes before each of the names
abbrev pub with_prefixes : List Prefix → List Named → List Named
with_prefixes [] us = []
with_prefixes (p ∷ ps) us = map (prefixed p) us ++ with_prefixes ps us

-- all texts of units
unfoldable pub all_units : List Named
all_units = names ++ with_prefixes prefixes prefixable

-- what a text means in a list of texts: the first that it equals decides
abbrev pub meaning_in : List Named → List ℕ → Option Meaning
meaning_in [] text = None
meaning_in (u ∷ us) text = if bytes_eq u.text text then Some u.meaning else meaning_in us text

-- what the text of a unit means; nothing, where it is no unit's
unfoldable pub unit_of : List ℕ → Option Meaning
unit_of text = meaning_in all_units text

-- a list has a text with this meaning
pub data IsListed (text : List ℕ) (meaning : Meaning) : List Named → Type 0 where
  here : {u : Named} {us : List Named} → u.text ≡ text → u.meaning ≡ meaning → IsListed text meaning (u ∷ us)
  later : {u : Named} {us : List Named} → IsListed text meaning us → IsListed text meaning (u ∷ us)

-- the texts all differ
abbrev pub all_differ : List (List ℕ) → Bool
all_differ [] = true
all_differ (t ∷ ts) = not (list_any (bytes_eq t) ts) && all_differ ts

-- the words for quantities
unfoldable pub quantity_words : List Named
quantity_words =
    coherent (codes "dimensionless") no_dimension
    ∷ coherent (codes "voltage") voltage_dim
    ∷ coherent (codes "current") current_dim
    ∷ coherent (codes "resistance") resistance_dim
    ∷ coherent (codes "capacitance") capacitance_dim
    ∷ coherent (codes "inductance") inductance_dim
    ∷ coherent (codes "power") power_dim
    ∷ coherent (codes "frequency") frequency_dim
    ∷ coherent (codes "time") time_dim
    ∷ coherent (codes "charge") charge_dim
    ∷ coherent (codes "conductance") conductance_dim
    ∷ coherent (codes "energy") energy_dim
    ∷ coherent (codes "temperature") temperature_dim
    ∷ coherent (codes "length") length_dim
    ∷ coherent (codes "mass") mass_dim
    ∷ []

-- the dimension that a declaration names: by the word for a quantity, else by the text of a unit
abbrev pub dim_of : List ℕ → Option (List ℤ)
dim_of text = option_map (λ m. m.dim) (option_or (meaning_in quantity_words text) (unit_of text))
