use Rattle.ato_files.proofs.StageLaws as laws
use Rattle.ato_files.proofs.laws.one_fault.Goals as goal

pub returns : goal.returns
returns c = laws.one_fault
