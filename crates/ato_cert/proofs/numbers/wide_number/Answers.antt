use Rattle.std.proofs.Common.{◌∙◌, ap, take, drop}
use Rattle.ato_cert.proofs.NumberLemmas.{front_is, back_is}
use Rattle.ato_cert.proofs.numbers.wide_number.Goals as goal

pub returns-in-Some-clause-back : goal.returns-in-Some-clause-back
returns-in-Some-clause-back c = λ n rest h none e.
    let digits = c.split_at.ensures.front ∙ ap (λ k. take k c.args.text.now) c.digits_end.ensures.at ∙ front_is n c.args.text.now rest h none e in
    let given = c.in-Some.ensures n h digits in
    (cc, c.split_at.ensures.back ∙ ap (λ k. drop k c.args.text.now) c.digits_end.ensures.at ∙ back_is n c.args.text.now rest h none e)

pub returns-in-None-clause-back : goal.returns-in-None-clause-back
returns-in-None-clause-back c = λ n rest h none e.
    let digits = c.split_at.ensures.front ∙ ap (λ k. take k c.args.text.now) c.digits_end.ensures.at ∙ front_is n c.args.text.now rest h none e in
    let given = c.in-None.ensures n h digits in
    cc
