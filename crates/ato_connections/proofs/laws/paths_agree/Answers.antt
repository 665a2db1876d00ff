use Rattle.ato_connections.proofs.EndSides as laws
use Rattle.ato_connections.proofs.laws.paths_agree.Goals as goal

pub returns : goal.returns
returns c = laws.paths
