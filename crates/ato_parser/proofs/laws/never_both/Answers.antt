use Rattle.ato_parser.proofs.FaultLaws as laws
use Rattle.ato_parser.proofs.laws.never_both.Goals as goal

pub returns : goal.returns
returns c = laws.never_both
