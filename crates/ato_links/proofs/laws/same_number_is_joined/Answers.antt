use Rattle.ato_links.proofs.ClassLaws as laws
use Rattle.ato_links.proofs.laws.same_number_is_joined.Goals as goal

pub returns : goal.returns
returns c = laws.same_number
