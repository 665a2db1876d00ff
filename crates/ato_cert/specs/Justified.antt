-- Which lines of a certificate are justified.
use Rattle.std.specs.Prelude.{◌≡◌, ℕ, ◌*◌, ◌<◌, ◌≤◌, nat_lt, nat_le, List, [], ◌∷◌, length}
use Rattle.std.specs.List.{All, Contains, filter}
use Rattle.ato_rational.specs.Rational.{◌≤ℚ◌}
use Rattle.ato_frac.specs.declared.fraction.Frac.{Frac}
use Rattle.ato_frac.specs.Fractions.{value_of}
use Rattle.ato_cert.specs.declared.problem.Row.{Row}
use Rattle.ato_cert.specs.declared.problem.Slot.{Slot}
use Rattle.ato_cert.specs.declared.cert.PickTree.{PickTree}
use Rattle.ato_cert.specs.declared.cert.PickTree.TheVariants as tree
use Rattle.ato_cert.specs.Selection.{FailsAt}

-- the rows with numbers up to one
abbrev pub low_side : ℕ → List Row → List Row
low_side number rows = filter (λ row. nat_le row.number number) rows

-- the rows with numbers above one
abbrev pub high_side : ℕ → List Row → List Row
high_side number rows = filter (λ row. nat_lt number row.number) rows

-- at least half of the rows have numbers up to one
abbrev pub HasHalf : List Row → ℕ → Type 0
HasHalf rows number = length rows ≤ 2 * length (low_side number rows)

-- the least number of a row up to which at least half of the rows stand, with rows above it
pub record IsMiddle (rows : List Row) (number : ℕ) : Type 0 where
  pub row : Row
  pub is_left : Contains rows row
  pub numbered : row.number ≡ number
  pub half : HasHalf rows number
  pub least : All (λ other. HasHalf rows other.number → number ≤ other.number) rows
  pub low_some : 0 < length (low_side number rows)
  pub high_some : 0 < length (high_side number rows)

-- a tree whose every line is justified over the rows left, and so shows that none of them is good
pub data Refutes (slot : Slot) : List Row → PickTree → Type 0 where
  empty : Refutes slot [] (tree.Empty 1)
  by_row : {rows : List Row} {low high : PickTree} (number : ℕ) → IsMiddle rows number
      → Refutes slot (low_side number rows) low → Refutes slot (high_side number rows) high
      → Refutes slot rows (tree.ByRow 1 number low high)
  fails : {rows : List Row} (t : Frac) → FailsAt slot rows t → Refutes slot rows (tree.Fails 1 (t ∷ []))

-- the range of a row lies in the target, which justifies `holds`
pub record LiesInTarget (slot : Slot) (row : Row) : Type 0 where
  pub above : value_of slot.low ≤ℚ value_of row.low
  pub below : value_of row.high ≤ℚ value_of slot.high
