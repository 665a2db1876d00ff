use Rattle.ato_enclosures.proofs.session.put.Goals as goal

pub push-requires-clause-nodes : goal.push-requires-clause-nodes
push-requires-clause-nodes c = (c.takes.ensures.0 c.if-not-takes.false).nodes
