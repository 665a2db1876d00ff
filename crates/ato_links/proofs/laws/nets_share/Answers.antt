use Rattle.ato_links.proofs.ShareLaws as laws
use Rattle.ato_links.proofs.laws.nets_share.Goals as goal

pub returns : goal.returns
returns c = laws.nets_share
