use Rattle.ato_connections.proofs.PairLaws as laws
use Rattle.ato_connections.proofs.laws.pairs_agree.Goals as goal

pub returns : goal.returns
returns c = laws.pairs
