use Rattle.std.proofs.Common.{arith, suc}
use Rattle.std.proofs.lemmas.Option.{slice_get-get_or}
use Rattle.ato_connections.specs.NodeLinks.{pair_links}
use Rattle.ato_connections.proofs.LinkingLaws.{level_next, level_end}
use Rattle.ato_connections.proofs.links.Links.join_level.Goals as goal

pub loop-one-preserved : goal.loop-one-preserved
loop-one-preserved c = λ is depth link.
    let j = c.in_ok-join_members.ensures is (pair_links c.args.given.now.program.now.files c.args.given.now.nodes.now depth) link in
    level_next (pair_links c.args.given.now.program.now.files c.args.given.now.nodes.now (suc depth)) c.args.pairs.now c.loop-one.one-index _ _ link
    (slice_get-get_or c.args.pairs.now c.loop-one.one-index (0, 0) c.loop-one-test.true)
    (c.loop-one.invariant is depth link) j

pub returns : goal.returns
returns c = λ is depth link.
    level_end (pair_links c.args.given.now.program.now.files c.args.given.now.nodes.now (suc depth)) c.args.pairs.now c.loop-one.one-index link
    (omega arith) (c.loop-one.invariant is depth link)
