-- The part of a block as it is lent.
use Rattle.std.specs.Prelude.{◌≤◌, Option, Some, None}
use Rattle.ato_first.specs.FirstParts as parts
use Rattle.ato_first.specs.declared.first_parts.Part.{Part}

-- the part that is lent
abbrev pub shown_part : Option Part → Option parts.Part
shown_part None = None
shown_part (Some part) = Some (record { kind = part.kind.now; attribute = part.attribute.now; low = part.low; high = part.high })

-- What is asserted of the part has a value.
abbrev pub IsInOrder : Option Part → Type 0
IsInOrder None = Unit {0}
IsInOrder (Some part) = part.low ≤ part.high
