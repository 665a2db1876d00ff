-- What is judged of a relation over ranges.
use Rattle.std.specs.Prelude.{◌≡◌, ◌⊎◌, ℕ, List, Some, Contains, slice_get}
use Rattle.ato_rational.specs.Rational.{ℚ, ◌≈ℚ◌, ◌≤ℚ◌, ◌<ℚ◌}
use Rattle.ato_frac.specs.declared.fraction.Frac.{Frac}
use Rattle.ato_frac.specs.Fractions.{value_of}
use Rattle.ato_interval.specs.Ends.{Ends, Holds}
use Rattle.ato_expr.specs.Tables.{Entry}
use Rattle.ato_expr.specs.declared.ops.Relation.{Relation}
use Rattle.ato_expr.specs.declared.ops.Relation.TheVariants as relations
use Rattle.ato_expr.specs.Labels.{HasLabel, StopsFor}
use Rattle.ato_expr.specs.Values.{HoldsAt, LiesIn, roots_of}
use Rattle.ato_eval.specs.declared.judgement.Judgement.{Judgement}
use Rattle.ato_eval.specs.declared.judgement.Judgement.TheVariants as judgements
use Rattle.ato_eval.specs.declared.reason.Reason.{Reason}
use Rattle.ato_eval.specs.declared.reason.Reason.TheVariants.{TooWide, ByZero, ZeroInside}
use Rattle.ato_eval.specs.Intervals.{GivesInterval, RefusesInterval}

-- each variable has a value in its range
abbrev pub IsInside : List (Ends Frac) → (ℕ → ℚ) → Type 0
IsInside ranges point = (v : ℕ) (range : Ends Frac) → slice_get ranges v ≡ Some range → Holds value_of range (point v)

abbrev pub HasInterval : List Entry → List (Ends Frac) → ℕ → Ends Frac → Type 0
HasInterval table ranges = HasLabel (GivesInterval ranges) table

-- the first node below the sides without an interval has none for this reason
abbrev pub Stops : List Entry → List (Ends Frac) → Relation → Reason → Type 0
Stops table ranges relation = StopsFor (GivesInterval ranges) RefusesInterval table (roots_of relation)

-- what a reason makes of the judgement
abbrev pub judgement_of : Reason → Judgement
judgement_of TooWide = judgements.Wide
judgement_of ByZero = judgements.False
judgement_of ZeroInside = judgements.Unknown

-- ranges of one point each
abbrev pub ArePoints : List (Ends Frac) → Type 0
ArePoints ranges = (v : ℕ) (range : Ends Frac) → slice_get ranges v ≡ Some range → value_of range.low ≈ℚ value_of range.high

-- what a judgement says of a relation at a point of the ranges: True that it holds, and False that it fails
abbrev pub IsRight : List Entry → (ℕ → ℚ) → Relation → Judgement → Type 0
IsRight table point relation judgements.True = HoldsAt table point relation
IsRight table point relation judgements.False = HoldsAt table point relation → ⊥
IsRight table point relation judgements.Unknown = Unit {0}
IsRight table point relation judgements.Wide = Unit {0}

module _ (table : List Entry) (ranges : List (Ends Frac)) where
  -- P of the interval of one side, and of the intervals of both
  abbrev pub OfSide : ℕ → (Ends Frac → Type 0) → Type 0
  OfSide n P = (a : Ends Frac) × HasInterval table ranges n a × P a

  abbrev pub OfSides : ℕ → ℕ → (Ends Frac → Ends Frac → Type 0) → Type 0
  OfSides m n P = (a : Ends Frac) × (b : Ends Frac) × HasInterval table ranges m a × HasInterval table ranges n b × P a b

  -- the intervals of the sides leave no way to fail
  abbrev pub IsSure : Relation → Type 0
  IsSure (relations.Within n target) = OfSide n (λ a. (x : ℚ) → Holds value_of a x → LiesIn target x)
  IsSure (relations.Less m n) = OfSides m n (λ a b. value_of a.high <ℚ value_of b.low)
  IsSure (relations.LessEq m n) = OfSides m n (λ a b. value_of a.high ≤ℚ value_of b.low)
  IsSure (relations.Equal m n) =
      OfSides m n (λ a b. (value_of a.low ≈ℚ value_of a.high) × (value_of a.high ≈ℚ value_of b.low) × (value_of b.low ≈ℚ value_of b.high))
  IsSure (relations.Defined n) = OfSide n (λ a. Unit {0})

  -- the intervals of the sides leave no way to hold
  abbrev pub IsDenied : Relation → Type 0
  IsDenied (relations.Within n target) = OfSide n (λ a. (x : ℚ) → Holds value_of a x → ¬ LiesIn target x)
  IsDenied (relations.Less m n) = OfSides m n (λ a b. value_of b.high ≤ℚ value_of a.low)
  IsDenied (relations.LessEq m n) = OfSides m n (λ a b. value_of b.high <ℚ value_of a.low)
  IsDenied (relations.Equal m n) = OfSides m n (λ a b. (x : ℚ) → Holds value_of a x → ¬ Holds value_of b x)
  IsDenied (relations.Defined n) = ⊥

  -- each side has an interval
  abbrev pub AllHave : Relation → Type 0
  AllHave relation = (n : ℕ) → Contains (roots_of relation) n → OfSide n (λ a. Unit {0})

  -- the judgement of a relation over ranges
  abbrev pub Judges : Relation → Judgement → Type 0
  Judges relation judgements.True = IsSure relation
  Judges relation judgements.False = IsDenied relation ⊎ Stops table ranges relation ByZero
  Judges relation judgements.Unknown = (AllHave relation × ¬ IsSure relation × ¬ IsDenied relation) ⊎ Stops table ranges relation ZeroInside
  Judges relation judgements.Wide = Stops table ranges relation TooWide
