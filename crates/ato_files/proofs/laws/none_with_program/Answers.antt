use Rattle.ato_files.proofs.StageLaws as laws
use Rattle.ato_files.proofs.laws.none_with_program.Goals as goal

pub returns : goal.returns
returns c = laws.none_with_program
