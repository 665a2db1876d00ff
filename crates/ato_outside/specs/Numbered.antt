use Rattle.std.specs.Prelude.{ℕ, ◌==◌, Bool, List, [], ◌∷◌, Option, Some, None, if◌then◌else◌}
use Rattle.std.specs.List.{list_any}

-- whether a call's number is among those that fail
abbrev pub is_listed : List ℕ → ℕ → Bool
is_listed fail call = list_any (λ number. number == call) fail

-- how many bytes a put keeps whose number is to fail: the first entry of its number counts
abbrev pub kept_bytes : List (ℕ × ℕ) → ℕ → Option ℕ
kept_bytes [] call = None
kept_bytes (entry ∷ entries) call = if entry.0 == call then Some entry.1 else kept_bytes entries call
