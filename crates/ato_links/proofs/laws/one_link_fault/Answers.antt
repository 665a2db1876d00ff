use Rattle.ato_links.proofs.LinkedLaws as laws
use Rattle.ato_links.proofs.laws.one_link_fault.Goals as goal

pub returns : goal.returns
returns c = laws.one_fault
