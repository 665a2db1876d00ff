use Rattle.std.proofs.Common.{ℕ, List, ◌++◌, ◌∷◌, [], map, take, ap, sym, ◌∙◌}
use Rattle.std.proofs.lemmas.List.{map_more, take_all}
use Rattle.ato_base.specs.declared.nets.Net.{Net}
use Rattle.ato_links.specs.ByNumbers.{group_net}
use Rattle.ato_netlists.specs.Boards.{pin_at}
use Rattle.ato_netlists.proofs.nets.nets_of.Goals as goal

pub loop-group-preserved : goal.loop-group-preserved
loop-group-preserved c = λ tree entry b.
    let board = c.args.board.now in
    let f = λ (group : List ℕ). group_net board.program.now.files entry board.program.now.names board.of.now (map (pin_at board.program.now entry) group) in
    let groups = c.args.groups.now in
    let i = c.loop-group.group-index in
    c.in_ok-push.ensures.ok
    ∙ ap (λ l. l ++ c.in_ok-net.field-0 ∷ []) (c.loop-group.invariant tree entry b)
    ∙ ap (λ (m : Net). map f (take i groups) ++ m ∷ []) (c.in_ok-net.ensures tree entry b ∙ ap f (c.as_slice.ensures ∙ c.group-item.is))
    ∙ sym (map_more f groups i c.group-item.result c.loop-group-test.true)

pub returns : goal.returns
returns c = λ tree entry b.
    let board = c.args.board.now in
    let f = λ (group : List ℕ). group_net board.program.now.files entry board.program.now.names board.of.now (map (pin_at board.program.now entry) group) in
    c.loop-group.invariant tree entry b ∙ ap (map f) (take_all c.loop-group.group-index c.args.groups.now c.loop-group-test.false)
