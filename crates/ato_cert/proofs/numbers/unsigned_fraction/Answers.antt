use Rattle.std.proofs.Common.{◌∙◌, ap, sym, refl, ◌++◌, ◌∷◌}
use Rattle.std.specs.Fmt.{decimal}
use Rattle.ato_frac.specs.Signed.{signed_of}
use Rattle.ato_cert.proofs.NumberLemmas.{size_small, no_digit}
use Rattle.ato_cert.proofs.numbers.unsigned_fraction.Goals as goal

pub returns-in-Some-after-clause-back : goal.returns-in-Some-after-clause-back
returns-in-Some-after-clause-back c = λ f n rest none en e.
    let s = c.in-Some.ensures.back n (47 ∷ (decimal f.denom ++ rest)) (size_small f c.args.negative n en) (no_digit 47 (decimal f.denom ++ rest) refl) e in
    c.over_denominator.ensures.back f rest none (en ∙ ap (signed_of c.args.negative) (sym s.0)) (c.in-Some-after.ensures.back (decimal f.denom ++ rest) s.1)

pub returns-in-None-after-clause-back : goal.returns-in-None-after-clause-back
returns-in-None-after-clause-back c = λ f n rest none en e.
    let s = c.in-Some.ensures.back n (47 ∷ (decimal f.denom ++ rest)) (size_small f c.args.negative n en) (no_digit 47 (decimal f.denom ++ rest) refl) e in
    c.in-None-after.ensures.back (decimal f.denom ++ rest) s.1
