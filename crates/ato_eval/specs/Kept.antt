-- Intervals that are kept for nodes as pairs of ends, and operations over them.
use Rattle.std.specs.Prelude.{◌≡◌, ℕ, List, [], ◌∷◌, Some, slice_get}
use Rattle.ato_rational.specs.Rational.{min_ℚ, max_ℚ}
use Rattle.ato_frac.specs.declared.fraction.Frac.{Frac}
use Rattle.ato_frac.specs.Fractions.{value_of}
use Rattle.ato_interval.specs.Ends.{Ends, IsProper}
use Rattle.ato_expr.specs.declared.ops.Op.{Op}
use Rattle.ato_expr.specs.declared.ops.Op.TheVariants as ops
use Rattle.ato_expr.specs.Chains.{Chains, ChainStops}
use Rattle.ato_expr.specs.Tables.{Entry}
use Rattle.ato_eval.specs.declared.kept.Chain.{Chain}
use Rattle.ato_eval.specs.declared.kept.Chain.TheVariants.{Sum, Least, Greatest}
use Rattle.ato_eval.specs.declared.reason.Reason.{Reason}
use Rattle.ato_eval.specs.Intervals.{CanSum, GivesInterval, IsSpan, IsSum, RefusesInterval}
use Rattle.ato_eval.specs.Judgements.{HasInterval}

-- the interval is kept for the node
pub record IsAt (ends : List (Frac × Frac)) (node : ℕ) (interval : Ends Frac) : Type 0 where
  pub kept : slice_get ends node ≡ Some (interval.low, interval.high)
  pub proper : IsProper value_of interval

-- the intervals are kept for the nodes
abbrev pub AreAt : List (Frac × Frac) → List ℕ → List (Ends Frac) → Type 0
AreAt ends [] [] = Unit {0}
AreAt ends [] (c ∷ cs) = ⊥
AreAt ends (n ∷ ns) [] = ⊥
AreAt ends (n ∷ ns) (c ∷ cs) = IsAt ends n c × AreAt ends ns cs

-- some interval is kept for each of the nodes
abbrev pub AllKept : List (Frac × Frac) → List ℕ → Type 0
AllKept ends nodes = (cs : List (Ends Frac)) × AreAt ends nodes cs

-- what an operation gives over the intervals that are kept for nodes, and why it gives none
abbrev pub GivesAt : List (Ends Frac) → Op → List (Frac × Frac) → List ℕ → Ends Frac → Type 0
GivesAt ranges op ends nodes r = (cs : List (Ends Frac)) → AreAt ends nodes cs → GivesInterval ranges op cs r

abbrev pub RefusesAt : Op → List (Frac × Frac) → List ℕ → Reason → Type 0
RefusesAt op ends nodes reason = (cs : List (Ends Frac)) → AreAt ends nodes cs → RefusesInterval op cs reason

-- the operation of a chain, a step of it, and where there is none
abbrev pub op_of : Chain → Op
op_of Sum = ops.Sum
op_of Least = ops.Min
op_of Greatest = ops.Max

abbrev pub Steps : Chain → Ends Frac → Ends Frac → Ends Frac → Type 0
Steps Sum a b r = IsSum a b r
Steps Least a b r = IsSpan min_ℚ a b r
Steps Greatest a b r = IsSpan max_ℚ a b r

abbrev pub RefusesStep : Chain → Ends Frac → Ends Frac → Type 0
RefusesStep Sum a b = ¬ CanSum a b
RefusesStep Least a b = ⊥
RefusesStep Greatest a b = ⊥

-- the chain of an interval and those that are kept for nodes comes to r, or stops
abbrev pub ChainAt : Chain → List (Frac × Frac) → Ends Frac → List ℕ → Ends Frac → Type 0
ChainAt chain ends first nodes r = (cs : List (Ends Frac)) → AreAt ends nodes cs → Chains (Steps chain) first cs r

abbrev pub ChainStopsAt : Chain → List (Frac × Frac) → Ends Frac → List ℕ → Type 0
ChainStopsAt chain ends first nodes = (cs : List (Ends Frac)) → AreAt ends nodes cs → ChainStops (Steps chain) (RefusesStep chain) first cs

-- the interval of the node is kept for it
pub record IsKept (table : List Entry) (ranges : List (Ends Frac)) (ends : List (Frac × Frac)) (node : ℕ) : Type 0 where
  pub interval : Ends Frac
  pub at : IsAt ends node interval
  pub has : HasInterval table ranges node interval
