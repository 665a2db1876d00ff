-- Types that are marked. Only private functions have clauses in these words.
use Rattle.std.specs.Prelude.{◌≡◌, ◌<◌, ℕ, Bool, false, nat_eq, List, length, unwrap_or, slice_get}
use Rattle.std.specs.List.{list_any}
use Rattle.ato_elab.specs.declared.marks.Marks.{Marks}

abbrev pub is_marked : Marks → ℕ → Bool
is_marked marks type = unwrap_or (slice_get marks.marked.items type) false

-- There are so many types, and these are marked.
pub record AreMarked (count : ℕ) (types : List ℕ) (marks : Marks) : Type 0 where
  pub long : length marks.marked.items ≡ count
  pub each : (type : ℕ) → is_marked marks type ≡ list_any (nat_eq type) types
