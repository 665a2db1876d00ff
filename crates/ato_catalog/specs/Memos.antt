-- What is kept of texts that were read.
use Rattle.std.specs.Prelude.{⊤, List, Option, Some, None}
use Rattle.std.specs.List.{AllByRecursion}
use Rattle.ato_catalog.specs.Values.{IsQuantity}
use Rattle.ato_catalog.specs.declared.memo.Kept.{Kept}

-- Nothing is kept at a place, or a text with its quantity.
abbrev pub IsKept : Option Kept → Type 0
IsKept None = ⊤
IsKept (Some kept) = IsQuantity kept.text.now kept.quantity

-- It is so at each place.
abbrev pub AreKept : List (Option Kept) → Type 0
AreKept places = AllByRecursion IsKept places
