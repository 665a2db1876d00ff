use Rattle.std.proofs.Common.{sym, arith}
use Rattle.ato_catalog.proofs.PriceLaws.{number_end}
use Rattle.ato_catalog.proofs.prices.read_number.Goals as goal

pub returns : goal.returns
returns c = sym (number_end c.args.digits.now c.loop-digit.digit-index c.loop-digit.value c.loop-digit.invariant (omega arith) c.loop-digit.invariant.small)
