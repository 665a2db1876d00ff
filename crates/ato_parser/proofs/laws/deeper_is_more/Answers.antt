use Rattle.ato_parser.proofs.GrowsFiles as laws
use Rattle.ato_parser.proofs.laws.deeper_is_more.Goals as goal

pub returns-clause-files : goal.returns-clause-files
returns-clause-files c = laws.spelled_upwards

pub returns-clause-fronts : goal.returns-clause-fronts
returns-clause-fronts c = laws.front_upwards
