use Rattle.std.proofs.Common.{None}
use Rattle.std.proofs.lemmas.Result.{IfOk-weaker}
use Rattle.ato_cert.proofs.LineLemmas.{at_empty, at_row, at_fails, at_none}
use Rattle.ato_cert.proofs.lines.line_guess.Goals as goal

pub returns-in-Some : goal.returns-in-Some
returns-in-Some c = at_empty c.args.text.now c.in-Some.rest.now c.empty_guess.result c.in-Some.ensures.stands c.empty_guess.ensures

pub returns-in-Some-after : goal.returns-in-Some-after
returns-in-Some-after c = at_row c.args.text.now c.in-Some-after.rest.now c.row_guess.result c.in-Some-after.ensures.stands c.row_guess.ensures

pub returns-in-Some-after-2 : goal.returns-in-Some-after-2
returns-in-Some-after-2 c =
    IfOk-weaker c.fails_guess.result _ _ (λ g h. at_fails c.args.text.now c.in-Some-after-2.rest.now g c.in-Some-after-2.ensures.stands h) c.fails_guess.ensures

pub returns : goal.returns
returns c = at_none c.args.text.now None c.in_default.ensures.back c.in_default-after.ensures.back c.in_default-after-2.ensures.back
