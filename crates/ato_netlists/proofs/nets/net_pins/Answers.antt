use Rattle.std.proofs.Common.{ℕ, ◌++◌, ◌∷◌, [], map, take, get_or, ap, sym, ◌∙◌}
use Rattle.std.proofs.lemmas.List.{map_more, take_all}
use Rattle.ato_base.specs.declared.nets.NetPin.{NetPin}
use Rattle.ato_links.specs.Nets.{net_pin}
use Rattle.ato_netlists.specs.Boards.{pin_at}
use Rattle.ato_netlists.proofs.BoardLaws.{pins_told}
use Rattle.ato_netlists.proofs.GroupLaws.{pin_there}
use Rattle.ato_netlists.proofs.nets.net_pins.Goals as goal

pub loop-place-preserved : goal.loop-place-preserved
loop-place-preserved c = λ tree entry b.
    let board = c.args.board.now in
    let f = λ (place : ℕ). net_pin board.program.now.files entry board.program.now.names (pin_at board.program.now entry place).1 in
    let group = c.args.group.now in
    let i = c.loop-place.place-index in
    let place = get_or group i 0 in
    let at = pin_there board.program.now entry board.pins.now (pins_told tree entry board b) place (c.requires.group i 0 c.loop-place-test.true) in
    c.in_ok-push.ensures.ok
    ∙ ap (λ l. l ++ c.in_ok-net_pin.field-0 ∷ []) (c.loop-place.invariant tree entry b)
    ∙ ap (λ (m : NetPin). map f (take i group) ++ m ∷ []) (c.in_ok-net_pin.ensures tree entry (pin_at board.program.now entry place).1 b at)
    ∙ sym (map_more f group i 0 c.loop-place-test.true)

pub returns : goal.returns
returns c = λ tree entry b.
    let board = c.args.board.now in
    let f = λ (place : ℕ). net_pin board.program.now.files entry board.program.now.names (pin_at board.program.now entry place).1 in
    c.loop-place.invariant tree entry b ∙ ap (map f) (take_all c.loop-place.place-index c.args.group.now c.loop-place-test.false)
