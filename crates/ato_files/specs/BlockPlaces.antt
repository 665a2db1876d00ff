-- Where blocks stand. Only private functions have clauses in these words.
use Rattle.std.specs.Prelude.{ℕ, List, map, Option, Some, None, slice_get}
use Rattle.std.specs.List.{flat_map}
use Rattle.std.specs.Option.{option_and_then}
use Rattle.ato_ast.specs.declared.blocks.Block.{Block}
use Rattle.ato_ast.specs.declared.blocks.Item.{Item}
use Rattle.ato_ast.specs.declared.blocks.Item.TheVariants as item
use Rattle.ato_files.specs.declared.program.SourceFile.{SourceFile}
use Rattle.ato_files.specs.declared.block_places.BlockPlace.{BlockPlace}
use Rattle.ato_files.specs.Lists.{numbered}
use Rattle.ato_files.specs.Blocks.{BlockAt, item_block, blocks_of}

abbrev pub place_of : BlockAt → BlockPlace
place_of b = record { file = b.file; item = b.item }

-- the places of the blocks among the items of a file
abbrev pub item_places : ℕ → List (ℕ × Item) → List BlockPlace
item_places file items = flat_map (λ i. map place_of (item_block file i.0 i.1)) items

-- the places of the blocks of files with their numbers
abbrev pub file_places : List (ℕ × SourceFile) → List BlockPlace
file_places files = flat_map (λ f. item_places f.0 (numbered 0 f.1.tree.items)) files

-- the places of the blocks, by their numbers
abbrev pub places_of : List SourceFile → List BlockPlace
places_of files = map place_of (blocks_of files)

abbrev pub block_in : Item → Option Block
block_in (item.Heads line) = None
block_in (item.Block block) = Some block

-- the block at a place, if there is one
abbrev pub block_at : List SourceFile → BlockPlace → Option Block
block_at files place = option_and_then (λ file. option_and_then block_in (slice_get file.tree.items place.item)) (slice_get files place.file)
