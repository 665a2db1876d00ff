use Rattle.std.proofs.Common.{◌∷◌, ◌++◌}
use Rattle.std.specs.List.{flat_map}
use Rattle.ato_cert.specs.Texts.{fraction_word}
use Rattle.ato_cert.proofs.LineLemmas.{after_fractions}
use Rattle.ato_cert.proofs.lines.fails_guess.Goals as goal

pub returns-in-Some-2 : goal.returns-in-Some-2
returns-in-Some-2 c = λ check point rest small e.
    let n = c.in-Some.ensures check (flat_map fraction_word point ++ (10 ∷ rest)) small (after_fractions point rest) e in
    let q = c.in_ok-point-in-Some.ensures point rest n.1 in
    let number = n.0 in
    cc

pub returns-in-None-2 : goal.returns-in-None-2
returns-in-None-2 c = λ check point rest small e.
    let n = c.in-Some.ensures check (flat_map fraction_word point ++ (10 ∷ rest)) small (after_fractions point rest) e in
    let q = c.in_ok-point-in-Some.ensures point rest n.1 in
    cc

pub returns-in-None : goal.returns-in-None
returns-in-None c = λ check point rest small e. absurd (c.in-None.ensures check (flat_map fraction_word point ++ (10 ∷ rest)) small (after_fractions point rest) e)
