use Rattle.ato_links.proofs.DesignatorLaws as laws
use Rattle.ato_links.proofs.laws.designators_differ.Goals as goal

pub returns : goal.returns
returns c = laws.designators_differ
