use Rattle.ato_links.proofs.TableLaws as laws
use Rattle.ato_links.proofs.laws.blocks_have_names.Goals as goal

pub returns : goal.returns
returns c = laws.blocks_told
