use Rattle.ato_parser.proofs.ParseLaws as laws
use Rattle.ato_parser.proofs.laws.fronts_go_on.Goals as goal

pub returns : goal.returns
returns c = laws.front_goes_on
