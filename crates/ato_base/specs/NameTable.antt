-- The texts of a table of names, in the order of their first mention.
use Rattle.std.specs.Prelude.{◌≡◌, ℕ, true, List, [], ◌∷◌, ◌++◌, if◌then◌else◌, fold}
use Rattle.std.specs.List.{list_any, position_or_len}
use Rattle.std.specs.Str.{bytes_eq}

-- the texts of a table after one more is mentioned: a known text keeps its place, a new one goes last
abbrev pub with_name : List (List ℕ) → List ℕ → List (List ℕ)
with_name names text = if list_any (bytes_eq text) names then names else names ++ text ∷ []

-- the texts of a table after more of them are mentioned, one after another
abbrev pub with_names : List (List ℕ) → List (List ℕ) → List (List ℕ)
with_names names texts = fold with_name names texts

-- the number that a text has once it is mentioned: its own, or the next
abbrev pub number_of : List (List ℕ) → List ℕ → ℕ
number_of names text = position_or_len (bytes_eq text) names

-- The table holds the text.
abbrev pub IsHeld : List (List ℕ) → List ℕ → Type 0
IsHeld names text = list_any (bytes_eq text) names ≡ true

-- The table keeps the place of each name, and may hold more behind them.
abbrev pub Extends : List (List ℕ) → List (List ℕ) → Type 0
Extends old new = (more : List (List ℕ)) × (new ≡ old ++ more)
