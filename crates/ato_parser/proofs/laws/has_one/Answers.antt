use Rattle.ato_parser.proofs.FaultLaws as laws
use Rattle.ato_parser.proofs.laws.has_one.Goals as goal

pub returns : goal.returns
returns c = laws.has_one
