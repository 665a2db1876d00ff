use Rattle.ato_links.proofs.LinkedLaws as laws
use Rattle.ato_links.proofs.laws.fault_by_tree.Goals as goal

pub returns : goal.returns
returns c = laws.by_tree
