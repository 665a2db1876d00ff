use Rattle.std.proofs.Common.{◌≡◌, ◌++◌, ap, sym, ◌∙◌}
use Rattle.ato_instance_tree.specs.declared.tree.Node.{Node}
use Rattle.ato_netlists.proofs.BoardLaws.{node_there, pin_named}
use Rattle.ato_netlists.proofs.nets.pin_text.Goals as goal

pub returns : goal.returns
returns c = λ tree entry pin b at.
    let n = c.index-board-number.result in
    let named : c.as_str.result.now ≡ n.name = c.as_str.ensures ∙ ap (λ (m : Node). m.name) (sym c.index-board-number.is) in
    c.in_ok-push_str-2.ensures.ok ∙ ap (λ name. c.push_str.new.self ++ name) named ∙ ap (λ t. t ++ n.name) c.in_ok-push_str.ensures.ok
    ∙ pin_named tree entry c.args.board.now b c.args.number pin at n (node_there tree entry c.args.board.now b c.args.number n c.requires.number c.index-board-number.is)
    c.in-Some.parent (ap (λ (m : Node). m.parent) c.index-board-number.is ∙ c.in-Some.is) c.in_ok-text.text (λ path. c.in_ok-text.ensures tree entry path b)
