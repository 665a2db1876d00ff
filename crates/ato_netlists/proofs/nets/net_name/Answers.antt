use Rattle.std.proofs.Common.{◌<◌, None, length, get_or, ◌∙◌, arith}
use Rattle.std.proofs.lemmas.List.{get_or_default}
use Rattle.std.proofs.lemmas.Result.{IfOk-weaker}
use Rattle.ato_netlists.proofs.BoardLaws.{name_by_signal, name_by_pin}
use Rattle.ato_netlists.proofs.nets.net_name.Goals as goal

pub returns-in-Some : goal.returns-in-Some
returns-in-Some c =
    let board = c.args.board.now in
    let class = get_or board.of.now c.args.number 0 in
    let inside : class < length board.nodes.now = omega (arith, c.requires.within.classes c.args.number 0 (omega (arith, c.requires.within.size)), c.requires.within.size) in
    IfOk-weaker c.signal_text.result _ _ (λ text told tree entry pin b at.
    name_by_signal tree entry board b c.requires.within.signals c.args.number c.in-Some.signal pin text inside
    (get_or_default board.signals.now class None _ (omega (arith, inside, c.requires.within.signals.size)) ∙ c.in-Some.is) (λ path. told tree entry path b)) c.signal_text.ensures

pub returns-in-None : goal.returns-in-None
returns-in-None c =
    let board = c.args.board.now in
    let class = get_or board.of.now c.args.number 0 in
    let inside : class < length board.nodes.now = omega (arith, c.requires.within.classes c.args.number 0 (omega (arith, c.requires.within.size)), c.requires.within.size) in
    IfOk-weaker c.pin_text.result _ _ (λ text told tree entry pin b at.
    name_by_pin tree entry board b c.requires.within.signals c.args.number pin text inside
    (get_or_default board.signals.now class None _ (omega (arith, inside, c.requires.within.signals.size)) ∙ c.in-None.is) (told tree entry pin b at)) c.pin_text.ensures
