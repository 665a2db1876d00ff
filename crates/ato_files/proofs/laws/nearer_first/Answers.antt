use Rattle.ato_files.proofs.NearLaws as laws
use Rattle.ato_files.proofs.laws.nearer_first.Goals as goal

pub returns : goal.returns
returns c = laws.nearer_first
