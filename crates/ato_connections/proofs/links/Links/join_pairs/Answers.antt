use Rattle.ato_connections.proofs.LinkingLaws.{levels_begin, levels_next}
use Rattle.ato_connections.proofs.links.Links.join_pairs.Goals as goal

pub loop-left-init : goal.loop-left-init
loop-left-init c = λ is link.
    levels_begin c.args.given.now.program.now.files c.args.given.now.nodes.now c.args.self.now c.join_level.new.self c.in_ok-pairs.pairs
    c.args.pairs c.as_slice.result.now _ _ link c.as_slice.ensures c.len-left.ensures (c.in_ok-pairs.ensures is)

pub loop-left-preserved : goal.loop-left-preserved
loop-left-preserved c = λ is link. levels_next c.args.given.now.program.now.files c.args.given.now.nodes.now c.loop-left.self c.join_level-in-loop-left.new.self
    c.in_ok-pairs-2.pairs c.loop-left.pairs c.as_slice-in-loop-left.result.now c.loop-left.left link c.as_slice-in-loop-left.ensures c.loop-left-test.true
    (c.in_ok-pairs-2.ensures is) (c.loop-left.invariant is link)
