use Rattle.std.proofs.Common.{◌≡◌, ◌<◌, ◌++◌, ◌∷◌, [], Bool, length, ap, sym, ◌∙◌, subst, if◌then◌else◌}
use Rattle.std.specs.Prelude.{IfSome, is_some}
use Rattle.ato_instance_tree.specs.declared.tree.Node.{Node}
use Rattle.ato_netlists.proofs.BoardLaws.{node_there}
use Rattle.ato_netlists.proofs.NodeLaws.{signal_path}
use Rattle.ato_netlists.proofs.nets.signal_text.Goals as goal
use Rattle.ato_netlists.proofs.nets.signal_text.Goals.{then-is_some+in_ok-push_str, else-is_some}

pub returns : goal.returns
returns c = λ tree entry path b at.
    let board = c.args.board.now in
    let n = c.index-board-number.result in
    let top = c.index-board-parent.result in
    let text = c.in_ok-text.text in
    let inside : c.in-Some.parent < length board.nodes.now = subst (λ o. IfSome o (λ p. p < length board.nodes.now)) c.in-Some.is (c.requires.within.parents c.args.number n c.requires.number) in
    let more : c.if-is_some.text ≡ (if is_some top.parent then text ++ 46 ∷ [] else text) = elim c.if-is_some.branch [
      | then-is_some+in_ok-push_str w ↦ w.text-is ∙ w.in_ok-push_str.ensures.ok
          ∙ ap (λ (t : Bool). if t then text ++ 46 ∷ [] else text) (w.if-is_some.ensures ∙ ap (λ (m : Node). is_some m.parent) (sym c.index-board-parent.is))
      | else-is_some w ↦ w.text-is ∙ ap (λ (t : Bool). if t then text ++ 46 ∷ [] else text) (w.if-is_some.ensures ∙ ap (λ (m : Node). is_some m.parent) (sym c.index-board-parent.is))
    ] in
    c.in_ok-push_str-2.ensures.ok ∙ ap (λ name. c.if-is_some.text ++ name) (c.as_str.ensures ∙ ap (λ (m : Node). m.name) (sym c.index-board-number.is))
    ∙ signal_path board.program.now tree entry b.sound c.args.number path at n (node_there tree entry board b c.args.number n c.requires.number c.index-board-number.is) c.in-Some.parent (ap (λ (m : Node). m.parent) c.index-board-number.is ∙ c.in-Some.is)
    top (node_there tree entry board b c.in-Some.parent top inside c.index-board-parent.is) text c.if-is_some.text (λ path. c.in_ok-text.ensures tree entry path b) more
