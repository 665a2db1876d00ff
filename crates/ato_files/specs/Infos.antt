-- What is kept of blocks, from their places and lineages. Only private functions have clauses in these words.
use Rattle.std.specs.Prelude.{◌≡◌, ◌<◌, ℕ, false, List, [], length, Option, Some, None}
use Rattle.ato_files.specs.declared.program.SourceFile.{SourceFile}
use Rattle.ato_files.specs.declared.program.BlockInfo.{BlockInfo}
use Rattle.ato_files.specs.declared.block_places.BlockPlace.{BlockPlace}
use Rattle.ato_files.specs.Blocks.{blocks_of}
use Rattle.ato_files.specs.BlockPlaces.{places_of}
use Rattle.ato_files.specs.Lineages.{never_ends}
use Rattle.ato_files.specs.ParentLists.{AreLineages}

abbrev pub written : Option (List ℕ) → List ℕ
written None = []
written (Some lineage) = lineage

abbrev pub info_of : BlockPlace → Option (List ℕ) → BlockInfo
info_of place lineage = record { file = record { 0 = place.file }; item = place.item; lineage = written lineage }

-- The places and the lineages are those of the blocks of files, and the ancestors of all blocks end.
pub record AreEnding (files : List SourceFile) (places : List BlockPlace) (lineages : List (Option (List ℕ))) : Type 0 where
  pub stand : places ≡ places_of files
  pub have : AreLineages files (length (blocks_of files)) lineages
  pub end : (number : ℕ) → number < length (blocks_of files) → never_ends files number ≡ false
