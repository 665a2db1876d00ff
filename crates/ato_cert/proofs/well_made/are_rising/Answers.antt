use Rattle.std.proofs.Common.{refl, arith}
use Rattle.ato_cert.proofs.RowLemmas.{rising_since}
use Rattle.ato_cert.proofs.well_made.are_rising.Goals as goal

pub returns : goal.returns
returns c = (λ _. rising_since c.args.rows.now c.loop-at.at (omega arith) c.loop-at.invariant, λ _. refl)
