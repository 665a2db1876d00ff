-- What is kept of waiting replacements. Only private functions have clauses in these words.
use Rattle.std.specs.Prelude.{◌≡◌, ℕ, nat_eq, List, [], map, unwrap_or}
use Rattle.indexmap.specs.IndexMap.{get}
use Rattle.ato_elab.specs.declared.changes.Change.{Change}
use Rattle.ato_elab.specs.declared.changes.Changes.{Changes}
use Rattle.ato_elab.specs.Waiting.{Waits, pass_all}

abbrev pub seen : Change → Waits
seen c = record { rest = c.rest.now; to = (c.to, c.named) }

-- those that are kept for a name
abbrev pub listed : Changes → ℕ → List Change
listed changes name = unwrap_or (get nat_eq changes.below name) []

abbrev pub passing : Changes → ℕ → List Waits
passing changes name = map seen (listed changes name)

-- They are those that wait, by the names of the members at which they go on.
abbrev pub AreChanges : List Waits → Changes → Type 0
AreChanges ws changes = (name : ℕ) → passing changes name ≡ pass_all name ws
