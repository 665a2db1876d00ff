use Rattle.std.proofs.Common.{refl, arith, map}
use Rattle.std.proofs.lemmas.List.{length-map}
use Rattle.ato_connections.proofs.LinkingLaws.{elder_within, item_at, member_next, members_end, none_elder}
use Rattle.ato_connections.proofs.links.Links.join_members.Goals as goal

pub returns-in_default : goal.returns-in_default
returns-in_default c = λ is deeper link.
    none_elder c.args.given.now.program.now.files c.args.given.now.nodes.now deeper c.args.self.now _ c.args.below.now c.args.one
    c.args.other link (c.in_default.ensures is) refl refl

pub loop-text-preserved : goal.loop-text-preserved
loop-text-preserved c = λ is deeper link.
    member_next c.args.given.now.nodes.now deeper c.args.one c.args.other (map (λ text. text.now) c.names-text-items.result.now)
    c.loop-text.text-index _ _ _ link
    (item_at (λ text. text.now) c.names-text-items.result.now c.loop-text.text-index _ c.loop-text-test.true)
    (c.member.ensures is) (c.member-in-loop-text.ensures is) (c.loop-text.invariant is deeper link) (c.in_ok-join_sides.ensures deeper link)

pub returns : goal.returns
returns c = λ is deeper link.
    let texts = map (λ text. text.now) c.names-text-items.result.now in
    members_end c.args.given.now.program.now.files c.args.given.now.nodes.now deeper c.args.one c.args.other c.in-Some.elder texts c.loop-text.text-index link
    (c.in-Some.ensures is)
    (c.names-text-items.ensures c.args.given.now.nodes.now is.members
    (elder_within c.args.given.now.program.now.files c.args.given.now.nodes.now c.args.one c.args.other c.in-Some.elder (c.in-Some.ensures is)))
    (omega (arith, length-map c.names-text-items.result.now (λ text. text.now)))
    (c.loop-text.invariant is deeper link)
