use Rattle.std.proofs.Common.{◌≡◌, ◌++◌, ◌∷◌, ℕ, List, length}
use Rattle.std.specs.List.{flat_map}
use Rattle.ato_frac.specs.declared.fraction.Frac.{Frac}
use Rattle.ato_cert.specs.Texts.{fraction_word}
use Rattle.ato_cert.proofs.LineLemmas.{IsLeft}
use Rattle.ato_cert.proofs.lines.fractions.Given as goal

abbrev pub invariant-loop-word : goal.invariant-loop-word
invariant-loop-word l = (point : List Frac) (end : List ℕ) → l.fn.text ≡ flat_map fraction_word point ++ (10 ∷ end) → IsLeft point l.point l.rest end

abbrev pub decreases-loop-word : goal.decreases-loop-word
decreases-loop-word l = length l.rest
