use Rattle.std.proofs.Common.{arith, ◌-◌, ◌/◌, length}
use Rattle.ato_cert.proofs.RowLemmas.{halves_at}
use Rattle.ato_cert.proofs.halving.halves.Goals as goal

pub returns : goal.returns
returns c =
    halves_at c.args.rows.now c.split_at.result.0.now c.split_at.result.1.now ((length c.args.rows.now - 1) / 2) c.index-rows-middle.result c.requires.rising
    c.split_at.ensures.front c.split_at.ensures.back
    (omega (arith, c.requires.several)) (omega (arith, c.requires.several)) (omega (arith, c.requires.several))
