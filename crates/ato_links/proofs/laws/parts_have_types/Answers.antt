use Rattle.ato_links.proofs.TableLaws as laws
use Rattle.ato_links.proofs.laws.parts_have_types.Goals as goal

pub returns : goal.returns
returns c = laws.types_told
