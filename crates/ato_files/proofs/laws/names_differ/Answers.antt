use Rattle.ato_files.proofs.NameTableLaws as laws
use Rattle.ato_files.proofs.laws.names_differ.Goals as goal

pub returns : goal.returns
returns c = laws.names_differ
