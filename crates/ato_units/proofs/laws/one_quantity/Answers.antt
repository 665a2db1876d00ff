use Rattle.ato_units.proofs.OneQuantity.{one_quantity}
use Rattle.ato_units.proofs.laws.one_quantity.Goals as goal

pub returns : goal.returns
returns c = one_quantity
