use Rattle.std.specs.Prelude.{◌≡◌, ℕ, ◌-◌, Bool, true, false, ◌||◌, ◌++◌, nat_lt, length, List, Result, Ok, Err, refl}
use Rattle.std.specs.Coded.{Coded, code_by, coded×, coded_list, coded_ℕ}
use Rattle.ato_outside.specs.Causes.{next_count}
use Rattle.ato_outside.specs.Numbered.{is_listed}
use Rattle.ato_outside.specs.declared.sink.SinkFailed.{SinkFailed}

-- A sink in memory: the bytes written, the room left, the numbers of the calls that fail, the calls
-- so far, and how many of them failed.
pub record MemorySink : Type 0 where
  pub written : List ℕ
  pub room : ℕ
  pub fail : List ℕ
  pub calls : ℕ
  pub faults : ℕ

-- a sink in memory is stored as the tuple of its parts
abbrev pub sink_code : Coded MemorySink
sink_code =
    code_by (List ℕ × (ℕ × (List ℕ × (ℕ × ℕ)))) (coded× (coded_list coded_ℕ) (coded× coded_ℕ (coded× (coded_list coded_ℕ) (coded× coded_ℕ coded_ℕ))))
    (λ s. (s.written, (s.room, (s.fail, (s.calls, s.faults)))))
    (λ p. record { written = p.0; room = p.1.0; fail = p.1.1.0; calls = p.1.1.1.0; faults = p.1.1.1.1 })
    (λ _. refl)

-- whether a sink in memory refuses a piece: the call's number is to fail, or the room is too small
abbrev pub is_refused : MemorySink → List ℕ → Bool
is_refused sink piece = is_listed sink.fail (next_count sink.calls) || nat_lt sink.room (length piece)

-- a sink in memory after one more call
abbrev pub called : MemorySink → MemorySink
called sink = record sink { calls = next_count sink.calls }

-- What a write makes of a sink in memory, by whether it is refused: all of the piece, or nothing.
abbrev pub WritesByNumber : Bool → MemorySink → MemorySink → List ℕ → Result ℕ SinkFailed → Type 0
WritesByNumber true old new piece (Ok n) = ⊥
WritesByNumber true old new piece (Err e) = new ≡ record (called old) { faults = next_count old.faults }
WritesByNumber false old new piece (Ok n) = (n ≡ length piece) × (new ≡ record (called old) { written = old.written ++ piece; room = old.room - length piece })
WritesByNumber false old new piece (Err e) = ⊥
