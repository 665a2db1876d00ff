use Rattle.std.proofs.Common.{map, get_or, ◌∙◌}
use Rattle.ato_links.specs.ByNumbers.{group_net}
use Rattle.ato_links.specs.Nets.{Pin, net_pin}
use Rattle.std.proofs.Common.{ℕ}
use Rattle.ato_netlists.specs.Boards.{pin_at}
use Rattle.ato_netlists.proofs.BoardLaws.{maps, pins_told, first_named, same_net}
use Rattle.ato_netlists.proofs.GroupLaws.{pin_there}
use Rattle.ato_netlists.proofs.nets.net.Goals as goal

pub returns : goal.returns
returns c = λ tree entry b.
    let board = c.args.board.now in
    let group = c.args.group.now in
    let at = pin_there board.program.now entry board.pins.now (pins_told tree entry board b) (get_or group 0 0) (c.requires.group 0 0 c.requires.some) in
    same_net _ (group_net board.program.now.files entry board.program.now.names board.of.now (map (pin_at board.program.now entry) group))
    (c.in_ok-net_name.ensures tree entry (pin_at board.program.now entry (get_or group 0 0)).1 b at ∙ first_named tree entry board b group c.requires.some c.requires.group)
    (c.in_ok-net_pins.ensures tree entry b ∙ maps (λ (p : ℕ × Pin). net_pin board.program.now.files entry board.program.now.names p.1) (pin_at board.program.now entry) group)
