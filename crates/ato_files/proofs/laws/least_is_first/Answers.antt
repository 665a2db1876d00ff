use Rattle.ato_files.proofs.FaultLaws as laws
use Rattle.ato_files.proofs.laws.least_is_first.Goals as goal

pub returns : goal.returns
returns c = laws.least_first
