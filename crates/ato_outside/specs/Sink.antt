use Rattle.std.specs.Prelude.{◌≡◌, ℕ, ◌++◌, List, take, Option, Some, None, Result, Ok, Err, length, ◌<◌}
use Rattle.ato_outside.specs.declared.sink.SinkFailed.{SinkFailed}

-- What a write makes of the bytes: Ok(n) appends the first n bytes of the piece, SinkFailed nothing.
abbrev pub Writes : List ℕ → List ℕ → List ℕ → Result ℕ SinkFailed → Type 0
Writes old new piece (Ok n) = new ≡ old ++ take n piece
Writes old new piece (Err e) = new ≡ old

-- The same where the bytes are told. They stay told or untold.
abbrev pub WritesWhereTold : Option (List ℕ) → Option (List ℕ) → List ℕ → Result ℕ SinkFailed → Type 0
WritesWhereTold None None piece result = Unit {0}
WritesWhereTold (Some old) (Some new) piece result = Writes old new piece result
WritesWhereTold None (Some new) piece result = ⊥
WritesWhereTold (Some old) None piece result = ⊥

-- A fault of the sink: SinkFailed, or Ok(0) for a piece that is not empty.
abbrev pub IsSinkFault : List ℕ → Result ℕ SinkFailed → Type 0
IsSinkFault piece (Ok n) = (n ≡ 0) × (0 < length piece)
IsSinkFault piece (Err e) = Unit {0}
