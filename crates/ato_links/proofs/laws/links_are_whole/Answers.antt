use Rattle.ato_links.proofs.WholeLaws as laws
use Rattle.ato_links.proofs.laws.links_are_whole.Goals as goal

pub returns : goal.returns
returns c = laws.whole
