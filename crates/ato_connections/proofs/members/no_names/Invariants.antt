use Rattle.std.proofs.Common.{◌≡◌, ℕ, [], get_or, length}
use Rattle.ato_connections.proofs.members.no_names.Given as goal

abbrev pub invariant-loop : goal.invariant-loop
invariant-loop l = (length l.names.items ≡ l.counter) × ((instance : ℕ) → get_or l.names.items instance [] ≡ [])
