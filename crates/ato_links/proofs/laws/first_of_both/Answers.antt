use Rattle.ato_links.proofs.FaultOrder as laws
use Rattle.ato_links.proofs.laws.first_of_both.Goals as goal

pub returns : goal.returns
returns c = laws.first_of_both
