-- The parts that are taken, as a set of their bytes.
use Rattle.std.specs.Borrow.{Bor}
use Rattle.std.specs.Prelude.{ℕ, Bool, List, Option}
use Rattle.std.specs.HashSet.{HashSet, contains_by}
use Rattle.std.specs.Str.{bytes_eq}
use Rattle.ato_base.specs.declared.faults.FaultKind.{FaultKind}
use Rattle.ato_first_catalog.specs.Contents.{row_fault}
use Rattle.ato_first_catalog.specs.Rows.{part_in}
use Rattle.ato_first_catalog.specs.declared.header.Layout.{Layout}

-- whether the set has a part
abbrev pub has_part : {S : Type 0} → HashSet (Bor (List ℕ)) S → List ℕ → Bool
has_part parts part = contains_by (λ held. bytes_eq part held.now) parts

-- what is wrong with a row after so many others, whose parts are the set
abbrev pub next_fault : {S : Type 0} → Layout → ℕ → HashSet (Bor (List ℕ)) S → List (List ℕ) → Option (FaultKind × ℕ)
next_fault layout before parts cells = row_fault layout before (has_part parts (part_in layout cells)) cells
