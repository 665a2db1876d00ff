use Rattle.ato_links.proofs.NameLaws as laws
use Rattle.ato_links.proofs.laws.names_are_in_table.Goals as goal

pub returns : goal.returns
returns c = laws.names_told
