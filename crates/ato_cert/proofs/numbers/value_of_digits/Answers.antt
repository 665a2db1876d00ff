use Rattle.std.proofs.Common.{◌∙◌}
use Rattle.std.proofs.lemmas.Fmt.{parse-decimal_wide}
use Rattle.ato_cert.proofs.NumberLemmas.{short, short_128, utf8_number}
use Rattle.ato_cert.proofs.numbers.value_of_digits.Goals as goal

pub returns-in_default : goal.returns-in_default
returns-in_default c = λ n h e. absurd (c.in_default.ensures.cases.0 (rw e (utf8_number n h)))

pub returns-in-Ok-parse : goal.returns-in-Ok-parse
returns-in-Ok-parse c = λ n h e.
    let p = parse-decimal_wide 128 n c.in-Ok.digits.now c.parse.result (short_128 n h) (short n h) (c.in-Ok.ensures.cases.0 ∙ e) c.parse.ensures.value.0 in
    cc

pub returns-in-Err : goal.returns-in-Err
returns-in-Err c = λ n h e.
    let p = parse-decimal_wide 128 n c.in-Ok.digits.now c.parse.result (short_128 n h) (short n h) (c.in-Ok.ensures.cases.0 ∙ e) c.parse.ensures.value.0 in
    cc
