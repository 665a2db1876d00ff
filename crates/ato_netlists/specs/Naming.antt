-- The texts of names. Only private functions have clauses in these words.
use Rattle.std.specs.Prelude.{ℕ, List, [], slice_get, unwrap_or}
use Rattle.ato_base.specs.declared.name_table.Name.{Name}

-- the text of a name; nothing where the table has none
abbrev pub name_text : List (List ℕ) → Name → List ℕ
name_text names n = unwrap_or (slice_get names n.0) []
