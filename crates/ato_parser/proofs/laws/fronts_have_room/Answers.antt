use Rattle.ato_parser.proofs.FewerFiles as laws
use Rattle.ato_parser.proofs.NestingLaws as nesting
use Rattle.ato_parser.proofs.laws.fronts_have_room.Goals as goal

pub returns-clause-kept : goal.returns-clause-kept
returns-clause-kept c = nesting.fronts_fit

pub returns-clause-enough : goal.returns-clause-enough
returns-clause-enough c = laws.few_open

pub returns-clause-files : goal.returns-clause-files
returns-clause-files c = laws.few_spelled
