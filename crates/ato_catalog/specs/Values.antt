-- What the cell of an attribute says.
use Rattle.std.specs.Prelude.{◌≡◌, ℕ, ◌<◌, List, length, Option, Some, None, Ok}
use Rattle.std.specs.Str.{chars}
use Rattle.ato_units.specs.declared.quantities.Quantity.{Quantity}
use Rattle.ato_units.specs.Literals.{Literal, IsLiteral}
use Rattle.ato_units.specs.Spellings.{LiteralGives}

-- The text is a literal, and what this gives is the quantity.
pub record IsQuantity (text : List ℕ) (quantity : Quantity) : Type 0 where
  pub literal : Literal
  pub is_literal : IsLiteral (chars text) literal
  pub gives : LiteralGives literal (Ok quantity)

-- The text is no quantity.
abbrev pub IsNoQuantity : List ℕ → Type 0
IsNoQuantity text = (quantity : Quantity) → ¬ IsQuantity text quantity

-- The value that an attribute's cell has: none where the cell is empty, else the quantity that it is.
abbrev pub IsValue : List ℕ → Option Quantity → Type 0
IsValue cell None = length cell ≡ 0
IsValue cell (Some quantity) = (0 < length cell) × IsQuantity cell quantity
