use Rattle.ato_files.proofs.ProgramLaws as laws
use Rattle.ato_files.proofs.laws.one_program.Goals as goal

pub returns : goal.returns
returns c = laws.one_program
