use Rattle.ato_connections.proofs.MemberLemmas.{first_all, first_more}
use Rattle.ato_connections.proofs.members.Members.of.Goals as goal

pub loop-number-preserved : goal.loop-number-preserved
loop-number-preserved c = first_more c.args.nodes.now c.loop-number.number c.index-nodes-number.result c.loop-number.members c.put_node.new.self
    c.loop-number-test.true
    c.index-nodes-number.is c.loop-number.invariant c.in_ok-put_node.ensures

pub returns : goal.returns
returns c = first_all c.args.nodes.now c.loop-number.number c.loop-number.members c.loop-number-test.false c.loop-number.invariant
