use Rattle.std.proofs.Common.{◌∙◌, ap, Some, ◌∷◌, ◌++◌, refl}
use Rattle.std.specs.Fmt.{decimal}
use Rattle.ato_cert.proofs.CertReading.{steps_parts}
use Rattle.ato_cert.proofs.parts.steps_guess.Goals as goal

pub returns-in-Some-number : goal.returns-in-Some-number
returns-in-Some-number c = λ steps rest small e.
    let b = c.in-Some.ensures.back (decimal steps ++ (10 ∷ rest)) (e ∙ steps_parts steps rest) in
    ap Some (c.in-Some-number.ensures steps (10 ∷ rest) small refl b).0

pub returns-in-None-number : goal.returns-in-None-number
returns-in-None-number c = λ steps rest small e.
    let b = c.in-Some.ensures.back (decimal steps ++ (10 ∷ rest)) (e ∙ steps_parts steps rest) in
    absurd (c.in-None-number.ensures steps (10 ∷ rest) small refl b)

pub returns-in-None : goal.returns-in-None
returns-in-None c = λ steps rest small e. absurd (c.in-None.ensures.back (decimal steps ++ (10 ∷ rest)) (e ∙ steps_parts steps rest))
