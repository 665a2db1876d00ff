use Rattle.ato_links.proofs.PrefixLaws as laws
use Rattle.ato_links.proofs.laws.each_prefix_is_one.Goals as goal

pub returns : goal.returns
returns c = laws.each_prefix
