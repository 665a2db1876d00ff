-- How many parts have each prefix. Only private functions have clauses in these words.
use Rattle.std.specs.Prelude.{◌≡◌, ◌+◌, ℕ, List, count_by, unwrap_or, if◌then◌else◌}
use Rattle.std.specs.Str.{bytes_eq}
use Rattle.indexmap.specs.IndexMap.{get_by}
use Rattle.ato_netlists.specs.declared.designators.Designators.{Designators}

-- how many parts with a prefix are counted
abbrev pub counted : Designators → List ℕ → ℕ
counted d prefix = unwrap_or (get_by (λ key. bytes_eq prefix key.now) d.counts) 0

-- As many are counted for each prefix as stand in a list.
pub record HasCounted (before : List (List ℕ)) (d : Designators) : Type 0 where
  pub each : (prefix : List ℕ) → counted d prefix ≡ count_by (bytes_eq prefix) before

-- One more part with this prefix is counted, and of each other prefix as many as before.
pub record CountsOneMore (prefix : List ℕ) (old new : Designators) : Type 0 where
  pub each : (other : List ℕ) → counted new other ≡ (if bytes_eq other prefix then counted old other + 1 else counted old other)
