-- What the intervals of a relation's sides tell.
use Rattle.ato_rational.specs.Rational.{ℚ, ◌≈ℚ◌}
use Rattle.ato_frac.specs.declared.fraction.Frac.{Frac}
use Rattle.ato_frac.specs.Fractions.{value_of}
use Rattle.ato_interval.specs.Ends.{Ends, Holds}
use Rattle.ato_eval.specs.declared.judgement.Judgement.{Judgement}
use Rattle.ato_eval.specs.declared.judgement.Judgement.TheVariants as judgements

-- a judgement by what is sure and what is denied
abbrev pub Tells : Judgement → Type 0 → Type 0 → Type 0
Tells judgements.True sure denied = sure
Tells judgements.False sure denied = denied
Tells judgements.Unknown sure denied = ¬ sure × ¬ denied
Tells judgements.Wide sure denied = ⊥

-- both are the same single point
abbrev pub IsSamePoint : Ends Frac → Ends Frac → Type 0
IsSamePoint a b = (value_of a.low ≈ℚ value_of a.high) × (value_of a.high ≈ℚ value_of b.low) × (value_of b.low ≈ℚ value_of b.high)

-- they do not meet
abbrev pub AreApart : Ends Frac → Ends Frac → Type 0
AreApart a b = (x : ℚ) → Holds value_of a x → ¬ Holds value_of b x
