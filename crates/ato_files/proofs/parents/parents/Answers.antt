use Rattle.std.proofs.Common.{ap, ◌∙◌}
use Rattle.std.specs.Prelude.{map}
use Rattle.std.proofs.lemmas.List.{take_all}
use Rattle.ato_files.specs.ParentLists.{parent_at}
use Rattle.ato_files.proofs.ParentLemmas.{are_parents}
use Rattle.ato_files.proofs.parents.parents.Goals as goal

pub returns : goal.returns
returns c = are_parents c.args.files.now c.args.meanings.now c.requires.meanings c.args.places.now c.loop-place.parents c.requires.places
    (c.loop-place.invariant ∙ ap (map (parent_at c.args.files.now c.args.meanings.now)) (take_all c.loop-place.place-index c.args.places.now c.loop-place-test.false))
