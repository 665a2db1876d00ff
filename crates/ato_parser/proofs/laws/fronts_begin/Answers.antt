use Rattle.ato_parser.proofs.FaultLaws as laws
use Rattle.ato_parser.proofs.laws.fronts_begin.Goals as goal

pub returns-clause-whole : goal.returns-clause-whole
returns-clause-whole c = laws.file_is_front

pub returns-clause-begins : goal.returns-clause-begins
returns-clause-begins c = laws.front_begins
