use Rattle.std.proofs.Common.{ap, sym, ◌∙◌}
use Rattle.ato_links.specs.Nets.{net_pin}
use Rattle.ato_instance_tree.specs.declared.tree.Node.{Node}
use Rattle.ato_netlists.proofs.BoardLaws.{node_there, same_pin}
use Rattle.ato_netlists.proofs.NodeLaws.{pin_holder}
use Rattle.ato_netlists.proofs.nets.net_pin.Goals as goal

pub returns : goal.returns
returns c = λ tree entry pin b at.
    let board = c.args.board.now in
    let n = c.index-board-number.result in
    let it = pin_holder board.program.now tree entry b.sound c.args.number pin at n (node_there tree entry board b c.args.number n c.requires.number c.index-board-number.is) c.in-Some.parent (ap (λ (m : Node). m.parent) c.index-board-number.is ∙ c.in-Some.is) in
    same_pin _ (net_pin board.program.now.files entry board.program.now.names pin) (b.parts c.in-Some.parent pin.path it.0) (c.in_ok-copy.ensures ∙ c.as_str.ensures ∙ ap (λ (m : Node). m.name) (sym c.index-board-number.is) ∙ it.1)
