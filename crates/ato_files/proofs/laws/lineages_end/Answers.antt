use Rattle.ato_files.proofs.LineageLaws as laws
use Rattle.ato_files.proofs.laws.lineages_end.Goals as goal

pub returns : goal.returns
returns c = laws.ends_exactly
