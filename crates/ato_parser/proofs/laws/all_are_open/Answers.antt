use Rattle.ato_parser.proofs.AllOpen as laws
use Rattle.ato_parser.proofs.laws.all_are_open.Goals as goal

pub returns : goal.returns
returns c = laws.all_open
