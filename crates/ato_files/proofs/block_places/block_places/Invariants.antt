use Rattle.std.proofs.Common.{◌≡◌, take}
use Rattle.ato_files.specs.BlockPlaces.{file_places}
use Rattle.ato_files.specs.Lists.{numbered}
use Rattle.ato_files.proofs.block_places.block_places.Given as goal

abbrev pub invariant-loop-number : goal.invariant-loop-number
invariant-loop-number l = l.places ≡ file_places (numbered 0 (take l.number l.files))
