use Rattle.ato_catalog.proofs.PriceLaws.{HasRead}
use Rattle.ato_catalog.proofs.prices.read_number.Given as goal

abbrev pub invariant-loop-digit : goal.invariant-loop-digit
invariant-loop-digit l = HasRead l.digits l.digit-index l.value
