use Rattle.std.proofs.Common.{◌∙◌, ap, sym, pos, false, arith, ◌<◌, ◌^◌}
use Rattle.std.proofs.lemmas.Int.{to_z-of_z}
use Rattle.ato_cert.proofs.NumberLemmas.{made, signed_fits}
use Rattle.ato_cert.proofs.numbers.fraction_of.Goals as goal

pub returns : goal.returns
returns c = λ f en ed.
    let small_n : c.args.size < 2 ^ 127 = omega arith in
    let small_d : c.args.denominator < 2 ^ 127 = omega arith in
    let fits_n = signed_fits c.signed.result c.args.negative c.args.size c.signed.ensures small_n in
    let fits_d = signed_fits c.signed-2.result false c.args.denominator c.signed-2.ensures small_d in
    made f c.signed.result c.signed-2.result c.new.result (c.signed.ensures ∙ sym en) (c.signed-2.ensures ∙ ap pos (sym ed)) (simp to_z-of_z at c.new.ensures)
