use Rattle.std.proofs.Common.{◌<◌, length, map, ap, sym, ◌∙◌, subst}
use Rattle.std.specs.Prelude.{All}
use Rattle.std.proofs.lemmas.Result.{IfOk-weaker}
use Rattle.ato_links.specs.ByNumbers.{group_net}
use Rattle.ato_netlists.specs.Boards.{pin_at}
use Rattle.ato_netlists.specs.Pins.{AreOneClass}
use Rattle.ato_netlists.proofs.BoardLaws.{pins_told}
use Rattle.ato_netlists.proofs.GroupLaws.{nets_made, places_within, some_each}
use Rattle.ato_netlists.proofs.nets.nets.Goals as goal

pub nets_of-requires-clause-groups : goal.nets_of-requires-clause-groups
nets_of-requires-clause-groups c =
    let board = c.args.board.now in
    subst (All (λ group. All (λ place. place < length board.pins.now) group)) (sym c.as_slice.ensures) (places_within board.of.now board.pins.now c.in_ok-groups.groups c.in_ok-groups.ensures)

pub nets_of-requires-clause-some : goal.nets_of-requires-clause-some
nets_of-requires-clause-some c =
    let board = c.args.board.now in
    subst (All (λ group. 0 < length group)) (sym c.as_slice.ensures) (some_each (AreOneClass board.of.now board.pins.now) c.in_ok-groups.ensures)

pub returns : goal.returns
returns c =
    let board = c.args.board.now in
    IfOk-weaker c.nets_of.result _ _ (λ nets made tree entry b.
    nets_made board.program.now entry board.pins.now (pins_told tree entry board b) board.program.now.names board.of.now c.in_ok-groups.groups nets c.in_ok-groups.ensures
    (made tree entry b ∙ ap (map (λ group. group_net board.program.now.files entry board.program.now.names board.of.now (map (pin_at board.program.now entry) group))) c.as_slice.ensures)) c.nets_of.ensures
