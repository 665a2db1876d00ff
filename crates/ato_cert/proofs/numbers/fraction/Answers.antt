use Rattle.ato_cert.proofs.NumberLemmas.{after_minus, without_minus}
use Rattle.ato_cert.proofs.numbers.fraction.Goals as goal

pub returns-in-Some-clause-back : goal.returns-in-Some-clause-back
returns-in-Some-clause-back c = λ f rest none e.
    after_minus _ f c.args.text.now c.in-Some.size.now rest e c.in-Some.ensures.stands (λ n en s. c.unsigned_fraction.ensures.back f n rest none en s)

pub returns-in-None-clause-back : goal.returns-in-None-clause-back
returns-in-None-clause-back c = λ f rest none e.
    without_minus _ f c.args.text.now rest e c.in-None.ensures.back (λ n en s. c.unsigned_fraction-in-None.ensures.back f n rest none en s)
