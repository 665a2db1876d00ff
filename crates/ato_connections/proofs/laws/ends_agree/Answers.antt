use Rattle.ato_connections.proofs.EntryLinks as laws
use Rattle.ato_connections.proofs.laws.ends_agree.Goals as goal

pub returns : goal.returns
returns c = laws.ends
