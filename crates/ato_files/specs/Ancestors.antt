-- Only private functions have clauses in these words.
-- Ancestors in a set.
use Rattle.std.specs.Prelude.{◌≡◌, ℕ, List}
use Rattle.ato_files.specs.declared.program.SourceFile.{SourceFile}
use Rattle.ato_files.specs.Lineages.{lineage_within}
use Rattle.ato_files.specs.NumberSet.{has}

-- The numbers are those of a block and of so many of its ancestors.
abbrev pub AreWithin : List SourceFile → ℕ → ℕ → List ℕ → Type 0
AreWithin files n block numbers = (b : ℕ) → has numbers b ≡ has (lineage_within files n block) b
