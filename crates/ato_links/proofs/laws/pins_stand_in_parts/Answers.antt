use Rattle.ato_links.proofs.PinLaws as laws
use Rattle.ato_links.proofs.laws.pins_stand_in_parts.Goals as goal

pub returns : goal.returns
returns c = laws.stands_in_part
