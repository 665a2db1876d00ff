use Rattle.ato_instance_tree.proofs.DepthLaws as laws
use Rattle.ato_instance_tree.proofs.laws.nothing_is_cut.Goals as goal

pub returns : goal.returns
returns c = laws.nothing_is_cut
