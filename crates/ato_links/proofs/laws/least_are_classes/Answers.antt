use Rattle.ato_links.proofs.NumberLaws as laws
use Rattle.ato_links.proofs.laws.least_are_classes.Goals as goal

pub returns : goal.returns
returns c = laws.least_are_classes
