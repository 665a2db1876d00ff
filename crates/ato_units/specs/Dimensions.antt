-- The dimensions of the SI, as exponents of metre, kilogram, second, ampere, kelvin, mole and candela.
use Rattle.std.specs.Prelude.{ℤ, pos, neg_ℤ, List, [], ◌∷◌}

-- a number, a ratio
abbrev pub no_dimension : List ℤ
no_dimension = pos 0 ∷ pos 0 ∷ pos 0 ∷ pos 0 ∷ pos 0 ∷ pos 0 ∷ pos 0 ∷ []

-- the metre
abbrev pub length_dim : List ℤ
length_dim = pos 1 ∷ pos 0 ∷ pos 0 ∷ pos 0 ∷ pos 0 ∷ pos 0 ∷ pos 0 ∷ []

-- the kilogram
abbrev pub mass_dim : List ℤ
mass_dim = pos 0 ∷ pos 1 ∷ pos 0 ∷ pos 0 ∷ pos 0 ∷ pos 0 ∷ pos 0 ∷ []

-- the second
abbrev pub time_dim : List ℤ
time_dim = pos 0 ∷ pos 0 ∷ pos 1 ∷ pos 0 ∷ pos 0 ∷ pos 0 ∷ pos 0 ∷ []

-- the ampere
abbrev pub current_dim : List ℤ
current_dim = pos 0 ∷ pos 0 ∷ pos 0 ∷ pos 1 ∷ pos 0 ∷ pos 0 ∷ pos 0 ∷ []

-- the kelvin
abbrev pub temperature_dim : List ℤ
temperature_dim = pos 0 ∷ pos 0 ∷ pos 0 ∷ pos 0 ∷ pos 1 ∷ pos 0 ∷ pos 0 ∷ []

-- the volt: kg·m²·s⁻³·A⁻¹
abbrev pub voltage_dim : List ℤ
voltage_dim = pos 2 ∷ pos 1 ∷ neg_ℤ (pos 3) ∷ neg_ℤ (pos 1) ∷ pos 0 ∷ pos 0 ∷ pos 0 ∷ []

-- the ohm: kg·m²·s⁻³·A⁻²
abbrev pub resistance_dim : List ℤ
resistance_dim = pos 2 ∷ pos 1 ∷ neg_ℤ (pos 3) ∷ neg_ℤ (pos 2) ∷ pos 0 ∷ pos 0 ∷ pos 0 ∷ []

-- the farad: kg⁻¹·m⁻²·s⁴·A²
abbrev pub capacitance_dim : List ℤ
capacitance_dim = neg_ℤ (pos 2) ∷ neg_ℤ (pos 1) ∷ pos 4 ∷ pos 2 ∷ pos 0 ∷ pos 0 ∷ pos 0 ∷ []

-- the henry: kg·m²·s⁻²·A⁻²
abbrev pub inductance_dim : List ℤ
inductance_dim = pos 2 ∷ pos 1 ∷ neg_ℤ (pos 2) ∷ neg_ℤ (pos 2) ∷ pos 0 ∷ pos 0 ∷ pos 0 ∷ []

-- the watt: kg·m²·s⁻³
abbrev pub power_dim : List ℤ
power_dim = pos 2 ∷ pos 1 ∷ neg_ℤ (pos 3) ∷ pos 0 ∷ pos 0 ∷ pos 0 ∷ pos 0 ∷ []

-- the joule: kg·m²·s⁻²
abbrev pub energy_dim : List ℤ
energy_dim = pos 2 ∷ pos 1 ∷ neg_ℤ (pos 2) ∷ pos 0 ∷ pos 0 ∷ pos 0 ∷ pos 0 ∷ []

-- the hertz: s⁻¹
abbrev pub frequency_dim : List ℤ
frequency_dim = pos 0 ∷ pos 0 ∷ neg_ℤ (pos 1) ∷ pos 0 ∷ pos 0 ∷ pos 0 ∷ pos 0 ∷ []

-- the coulomb: s·A
abbrev pub charge_dim : List ℤ
charge_dim = pos 0 ∷ pos 0 ∷ pos 1 ∷ pos 1 ∷ pos 0 ∷ pos 0 ∷ pos 0 ∷ []

-- the siemens: the reciprocal of the ohm
abbrev pub conductance_dim : List ℤ
conductance_dim = neg_ℤ (pos 2) ∷ neg_ℤ (pos 1) ∷ pos 3 ∷ pos 2 ∷ pos 0 ∷ pos 0 ∷ pos 0 ∷ []
