-- What the parts of a literal mean together, and which fault comes first.
use Rattle.std.specs.Prelude.{◌≡◌, ℕ, pos, Bool, true, false, ◌||◌, List, Option, Some, None, Result, Ok, Err, MatchOption, codes, if◌then◌else◌, unwrap_or, option_map}
use Rattle.std.specs.Ordering.{int_eq}
use Rattle.std.specs.Cmp.Lexicographic.{pointwise}
use Rattle.std.specs.Str.{bytes_eq}
use Rattle.std.specs.Option.{option_or}
use Rattle.ato_frac.specs.declared.fraction.Frac.{Frac}
use Rattle.ato_frac.specs.Fractions.{value_of, CanAdd, CanSubtract}
use Rattle.ato_frac.specs.Numbers.{ten_to}
use Rattle.ato_frac.specs.Range.{IsInRange}
use Rattle.ato_rational.specs.Rational.{◌≈ℚ◌, ◌≤ℚ◌, ◌<ℚ◌, ◌+ℚ◌, ◌-ℚ◌, ◌*ℚ◌, abs_ℚ}
use Rattle.ato_units.specs.declared.quantities.Form.{Form}
use Rattle.ato_units.specs.declared.quantities.Form.TheVariants as forms
use Rattle.ato_units.specs.declared.quantities.QuantityFault.{QuantityFault}
use Rattle.ato_units.specs.declared.quantities.QuantityFault.TheVariants as faults
use Rattle.ato_units.specs.declared.quantities.Quantity.{Quantity}
use Rattle.ato_units.specs.Dimensions.{no_dimension}
use Rattle.ato_units.specs.Units.{Meaning, unit_of}

-- a part as it is written: its number, unless that is too wide for a fraction, and the text of its unit, if it has one
pub record Written : Type 0 where
  pub number : Option Frac
  pub unit : Option (List ℕ)

-- a fault, and whether it is the second part's
abbrev pub PartFault : Type 0
PartFault = QuantityFault × Bool

-- whether a form has two parts
abbrev pub has_second : Form → Bool
has_second forms.One = false
has_second forms.To = true
has_second forms.About = true

-- the text of hundredths
abbrev pub is_percent : List ℕ → Bool
is_percent text = bytes_eq text (codes "%") || bytes_eq text (codes "percent")

-- a tolerance is relative where its own unit is hundredths
abbrev pub is_relative : Form → Option (List ℕ) → Bool
is_relative forms.One unit = false
is_relative forms.To unit = false
is_relative forms.About None = false
is_relative forms.About (Some text) = is_percent text

-- the unit of a part: none where it has none. It is unknown where its text is no unit's
abbrev pub own_unit : Option (List ℕ) → Option (Option Meaning)
own_unit None = Some None
own_unit (Some text) = option_map Some (unit_of text)

-- a number without a unit
abbrev pub plain : Meaning
plain = record { dim = no_dimension; tens = pos 0 }

-- two units of one dimension
abbrev pub alike : Meaning → Meaning → Result (Meaning × Meaning) PartFault
alike m n = if pointwise int_eq m.dim n.dim then Ok (m, n) else Err (faults.DimClash, true)

-- the units that count for two parts. One unit counts for both parts, but a relative tolerance gives the nominal none
abbrev pub units_of : Bool → Option (Option Meaning) → Option (Option Meaning) → Result (Meaning × Meaning) PartFault
units_of relative None second = Err (faults.UnknownUnit, false)
units_of relative (Some first) None = Err (faults.UnknownUnit, true)
units_of true (Some first) (Some second) = Ok (unwrap_or first plain, unwrap_or second plain)
units_of false (Some first) (Some second) = alike (unwrap_or (option_or first second) plain) (unwrap_or (option_or second first) plain)

-- the value of a part: its number times the scale of its unit. There is none where the number is too wide, or the product
abbrev pub IsValue : Option Frac → Meaning → Option Frac → Type 0
IsValue None unit value = value ≡ None
IsValue (Some number) unit value =
    MatchOption value (¬ IsInRange (value_of number *ℚ ten_to unit.tens)) (λ v. value_of v ≈ℚ value_of number *ℚ ten_to unit.tens)

-- the ends n - w and n + w
pub record AreAround (n w low high : Frac) : Type 0 where
  pub can_subtract : CanSubtract n w
  pub can_add : CanAdd n w
  pub low_is : value_of low ≈ℚ value_of n -ℚ value_of w
  pub high_is : value_of high ≈ℚ value_of n +ℚ value_of w

-- the ends of a relative tolerance, where w is the size of n·t
pub record AreRelative (n t low high : Frac) : Type 0 where
  pub w : Frac
  pub size : value_of w ≈ℚ abs_ℚ (value_of n *ℚ value_of t)
  pub around : AreAround n w low high

-- the ends that two values have; one part has both ends equal
abbrev pub AreEnds : Form → Bool → Frac → Frac → Frac → Frac → Type 0
AreEnds forms.One relative n t low high = (low ≡ n) × (high ≡ n)
AreEnds forms.To relative n t low high = (low ≡ n) × (high ≡ t)
AreEnds forms.About false n t low high = AreAround n t low high
AreEnds forms.About true n t low high = AreRelative n t low high

-- what two parts give: the first fault of units, dimensions, values and ends, or the dimension and the ends. In the form of
-- one part this counts as both
pub data Gives (form : Form) (p q : Written) (answer : Result Quantity PartFault) : Type 0 where
  unit_fault : {e : PartFault} → units_of (is_relative form q.unit) (own_unit p.unit) (own_unit q.unit) ≡ Err e → answer ≡ Err e → Gives form p q answer
  first_wide : {m s : Meaning} → units_of (is_relative form q.unit) (own_unit p.unit) (own_unit q.unit) ≡ Ok (m, s)
      → IsValue p.number m None → answer ≡ Err (faults.Wide, false) → Gives form p q answer
  second_wide : {m s : Meaning} (n : Frac) → units_of (is_relative form q.unit) (own_unit p.unit) (own_unit q.unit) ≡ Ok (m, s)
      → IsValue p.number m (Some n) → IsValue q.number s None → answer ≡ Err (faults.Wide, true) → Gives form p q answer
  ends_wide : {m s : Meaning} (n t : Frac) → units_of (is_relative form q.unit) (own_unit p.unit) (own_unit q.unit) ≡ Ok (m, s)
      → IsValue p.number m (Some n) → IsValue q.number s (Some t)
      → ((low high : Frac) → ¬ AreEnds form (is_relative form q.unit) n t low high) → answer ≡ Err (faults.Wide, true) → Gives form p q answer
  empty : {m s : Meaning} (n t low high : Frac) → units_of (is_relative form q.unit) (own_unit p.unit) (own_unit q.unit) ≡ Ok (m, s)
      → IsValue p.number m (Some n) → IsValue q.number s (Some t)
      → AreEnds form (is_relative form q.unit) n t low high → value_of high <ℚ value_of low → answer ≡ Err (faults.EmptyRange, true) → Gives form p q answer
  ends : {m s : Meaning} (n t : Frac) (quantity : Quantity) → units_of (is_relative form q.unit) (own_unit p.unit) (own_unit q.unit) ≡ Ok (m, s)
      → IsValue p.number m (Some n) → IsValue q.number s (Some t)
      → AreEnds form (is_relative form q.unit) n t quantity.low quantity.high → value_of quantity.low ≤ℚ value_of quantity.high
      → quantity.dim.0 ≡ m.dim → answer ≡ Ok quantity → Gives form p q answer
