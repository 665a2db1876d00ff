use Rattle.std.proofs.Common.{◌∙◌, ap, Some, None, ◌∷◌, ◌++◌, [], refl}
use Rattle.ato_cert.proofs.CertReading.{at_pick, at_no_pick}
use Rattle.ato_cert.proofs.parts.pick_guess.Goals as goal

pub returns-in_ok-push-in-Some-number-clause-back : goal.returns-in_ok-push-in-Some-number-clause-back
returns-in_ok-push-in-Some-number-clause-back c =
    at_pick c.args.text.now c.in-Some.behind.now (Some c.push.new.self) c.in-Some.ensures.stands
    (λ n rest small e.
    let q = (c.in-Some-number.ensures n (10 ∷ rest) small refl e).0 in
    ap Some (c.in_ok-push-in-Some-number.ensures.ok ∙ ap (λ l. l ++ c.in-Some-number.number ∷ []) c.new-pick.ensures ∙ ap (λ m. m ∷ []) q))

pub returns-in-None-number-clause-back : goal.returns-in-None-number-clause-back
returns-in-None-number-clause-back c =
    at_pick c.args.text.now c.in-Some.behind.now None c.in-Some.ensures.stands
    (λ n rest small e. absurd (c.in-None-number.ensures n (10 ∷ rest) small refl e))

pub returns-in-None-clause-back : goal.returns-in-None-clause-back
returns-in-None-clause-back c = λ pick rest short small e.
    ap Some c.new-pick.ensures ∙ at_no_pick c.args.text.now c.in-None.ensures.back pick rest short small e
