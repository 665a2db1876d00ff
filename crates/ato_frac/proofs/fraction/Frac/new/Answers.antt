use Rattle.std.proofs.Common.{◌≢◌, pos, rules}
use Rattle.std.proofs.lemmas.Int.{to_z-of_z}
use Rattle.ato_frac.proofs.Ranges.{as_quotient}
use Rattle.ato_frac.proofs.fraction.Frac.new.Goals as goal

pub returns : goal.returns
returns c =
    let k : c.args.d ≢ pos 0 = search rules in
    let fits_n = c.ranges.n in
    let fits_d = c.ranges.d in
    as_quotient c.args.n c.args.d c.quotient.result k (simp to_z-of_z at c.quotient.ensures)
