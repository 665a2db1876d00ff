-- The parts that are taken, as a set of their bytes.
use Rattle.std.specs.Borrow.{Bor}
use Rattle.std.specs.Prelude.{ℕ, Bool, List}
use Rattle.std.specs.HashSet.{HashSet, contains_by}
use Rattle.std.specs.Str.{bytes_eq}

-- whether the set has a part
abbrev pub has_part : {S : Type 0} → HashSet (Bor (List ℕ)) S → List ℕ → Bool
has_part parts part = contains_by (λ held. bytes_eq part held.now) parts
