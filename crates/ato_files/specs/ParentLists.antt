-- Lists of parents and of lineages. Only private functions have clauses in these words.
use Rattle.std.specs.Prelude.{◌≡◌, ◌<◌, ℕ, zero, suc, Bool, not, List, length, Option, Some, None, is_some, slice_get, if◌then◌else◌}
use Rattle.std.specs.Option.{option_and_then}
use Rattle.ato_files.specs.declared.program.SourceFile.{SourceFile}
use Rattle.ato_files.specs.declared.block_places.BlockPlace.{BlockPlace}
use Rattle.ato_files.specs.declared.meanings.Meanings.{Meanings}
use Rattle.ato_files.specs.Blocks.{blocks_of}
use Rattle.ato_files.specs.BlockPlaces.{block_at}
use Rattle.ato_files.specs.Meant.{joined, found}
use Rattle.ato_files.specs.Lineages.{parent, lineage, never_ends}

-- the parent of the block at a place, as it is kept
abbrev pub parent_at : List SourceFile → Meanings → BlockPlace → Option ℕ
parent_at files m place = option_and_then (λ b. option_and_then (λ name. found m place.file name.name.0) b.parent) (block_at files place)

-- These are the parents of the blocks, by their numbers.
pub record AreParents (files : List SourceFile) (parents : List (Option ℕ)) : Type 0 where
  pub count : length parents ≡ length (blocks_of files)
  pub each : (number : ℕ) → number < length (blocks_of files) → slice_get parents number ≡ Some (parent files number)

-- They are the parents of the blocks of some files.
pub record AreMade (parents : List (Option ℕ)) : Type 0 where
  pub files : List SourceFile
  pub are : AreParents files parents

-- ---- ancestors

-- the parent of a number
abbrev pub parent_in : List (Option ℕ) → ℕ → Option ℕ
parent_in parents number = joined (slice_get parents number)

-- the n-th ancestor
abbrev pub ancestor_in : List (Option ℕ) → ℕ → ℕ → Option ℕ
ancestor_in parents zero number = Some number
ancestor_in parents (suc n) number = option_and_then (ancestor_in parents n) (parent_in parents number)

-- the ancestors never end
abbrev pub endless : List (Option ℕ) → ℕ → Bool
endless parents number = is_some (ancestor_in parents (suc (length parents)) number)

-- A block that a walk from an earlier block came over is marked with the number of that one, and the ancestors of both
-- end or not. The others have marks past the end.
pub record AreMarks (parents : List (Option ℕ)) (start : ℕ) (walks : List ℕ) : Type 0 where
  pub count : length walks ≡ length parents
  pub each : (number walk : ℕ) → slice_get walks number ≡ Some walk → walk < length parents → (walk < start) × (endless parents number ≡ endless parents walk)

-- It is known of so many blocks whether their ancestors end.
pub record AreEnds (parents : List (Option ℕ)) (known : ℕ) (ends : List Bool) : Type 0 where
  pub count : length ends ≡ known
  pub each : (number : ℕ) → number < known → slice_get ends number ≡ Some (not (endless parents number))

-- ---- lineages

-- the lineage of a block whose ancestors end
abbrev pub lineage_of : List SourceFile → ℕ → Option (List ℕ)
lineage_of files number = if never_ends files number then None else Some (lineage files number)

-- The first so many blocks have these lineages, where their ancestors end.
pub record AreLineages (files : List SourceFile) (known : ℕ) (lineages : List (Option (List ℕ))) : Type 0 where
  pub count : length lineages ≡ known
  pub each : (number : ℕ) → number < known → slice_get lineages number ≡ Some (lineage_of files number)
