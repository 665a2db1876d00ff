use Rattle.std.proofs.Common.{sym}
use Rattle.ato_cert.proofs.numbers.over_denominator.Goals as goal

pub returns-in-Some-fraction_of-clause-back : goal.returns-in-Some-fraction_of-clause-back
returns-in-Some-fraction_of-clause-back c = λ f rest none en e.
    let d = c.in-Some.ensures.back f.denom rest f.denom_small none e in
    let g = c.in-Some-fraction_of.ensures f en (sym d.0) in
    (cc, d.1)

pub returns-in-None-fraction_of-clause-back : goal.returns-in-None-fraction_of-clause-back
returns-in-None-fraction_of-clause-back c = λ f rest none en e.
    let d = c.in-Some.ensures.back f.denom rest f.denom_small none e in
    let g = c.in-None-fraction_of.ensures f en (sym d.0) in
    cc
