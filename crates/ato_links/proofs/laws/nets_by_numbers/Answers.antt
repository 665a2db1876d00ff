use Rattle.ato_links.proofs.NetLaws as laws
use Rattle.ato_links.proofs.laws.nets_by_numbers.Goals as goal

pub returns : goal.returns
returns c = laws.nets_by_numbers
