use Rattle.ato_links.proofs.JoinNodes as laws
use Rattle.ato_links.proofs.laws.joins_are_nodes.Goals as goal

pub returns : goal.returns
returns c = laws.joins_are_nodes
