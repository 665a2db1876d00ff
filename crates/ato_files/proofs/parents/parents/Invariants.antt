use Rattle.std.proofs.Common.{◌≡◌, take}
use Rattle.std.specs.Prelude.{map}
use Rattle.ato_files.specs.ParentLists.{parent_at}
use Rattle.ato_files.proofs.parents.parents.Given as goal

abbrev pub invariant-loop-place : goal.invariant-loop-place
invariant-loop-place l = l.parents ≡ map (parent_at l.files l.meanings) (take l.place-index l.places)
