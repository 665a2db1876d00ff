use Rattle.ato_files.proofs.ReachLaws as laws
use Rattle.ato_files.proofs.laws.loads_all.Goals as goal

pub returns-clause-files : goal.returns-clause-files
returns-clause-files c = laws.all_loaded

pub returns-clause-there : goal.returns-clause-there
returns-clause-there c = laws.no_other_name
