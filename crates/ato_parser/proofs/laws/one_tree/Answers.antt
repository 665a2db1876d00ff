use Rattle.ato_parser.proofs.FaultLaws as laws
use Rattle.ato_parser.proofs.laws.one_tree.Goals as goal

pub returns : goal.returns
returns c = laws.one_tree
