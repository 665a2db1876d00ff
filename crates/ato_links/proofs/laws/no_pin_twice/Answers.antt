use Rattle.ato_links.proofs.PinLaws as laws
use Rattle.ato_links.proofs.laws.no_pin_twice.Goals as goal

pub returns : goal.returns
returns c = laws.no_pin_twice
