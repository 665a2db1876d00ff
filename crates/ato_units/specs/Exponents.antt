-- Dimensions given by their seven exponents.
use Rattle.std.specs.Prelude.{◌≡◌, ℕ, ◌<◌, ℤ, pos, neg_ℤ, ◌≤ℤ◌, List, Option, MatchOption, slice_index_or}
use Rattle.ato_units.specs.declared.dims.Dim.{Dim}

-- the exponent of a base unit, by its place
abbrev pub exponent : List ℤ → ℕ → ℤ
exponent dim place = slice_index_or dim place (pos 0)

-- an exponent that a dimension can have
pub record IsExponent (e : ℤ) : Type 0 where
  pub low : neg_ℤ (pos 128) ≤ℤ e
  pub high : e ≤ℤ pos 127

-- the first exponents are those that e gives
abbrev pub AreExponents : (ℕ → ℤ) → ℕ → List ℤ → Type 0
AreExponents e count exponents = (place : ℕ) → place < count → IsExponent (e place) × (exponent exponents place ≡ e place)

-- the dimension with the exponent e at each place; or none, since one of these is below -128 or above 127
abbrev pub HasExponents : (ℕ → ℤ) → Option Dim → Type 0
HasExponents e given =
    MatchOption given
    ((place : ℕ) × (place < 7) × (¬ IsExponent (e place)))
    (λ dim. AreExponents e 7 dim.0)

-- the exponent e; or none, since e is below -128 or above 127
abbrev pub GivesExponent : ℤ → Option ℤ → Type 0
GivesExponent e given = MatchOption given (¬ IsExponent e) (λ r. IsExponent e × (r ≡ e))
