-- Only private functions have clauses in these words.
-- Sets of names, told by their numbers.
use Rattle.std.specs.Prelude.{◌≡◌, ℕ, Bool, ◌==◌, List, nat_eq}
use Rattle.std.specs.List.{list_any}
use Rattle.ato_base.specs.declared.faults.Fault.{Fault}
use Rattle.ato_base.specs.declared.faults.FaultKind.TheVariants as kinds
use Rattle.ato_ast.specs.declared.names.Named.{Named}
use Rattle.ato_files.specs.Faults.{fault}

-- whether a number is one of these
abbrev pub has : List ℕ → ℕ → Bool
has numbers n = list_any (nat_eq n) numbers

-- whether one of the names has this number
abbrev pub is_named : List Named → ℕ → Bool
is_named names n = list_any (λ m. m.name.0 == n) names

-- The numbers are those of the names.
abbrev pub AreSeen : List ℕ → List Named → Type 0
AreSeen numbers names = (n : ℕ) → has numbers n ≡ is_named names n

abbrev pub twice : Named → Fault
twice n = fault kinds.NameTwice n.at
