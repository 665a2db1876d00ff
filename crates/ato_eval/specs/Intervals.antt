-- The intervals of nodes over ranges of the variables.
use Rattle.std.specs.Prelude.{◌≡◌, ◌⊎◌, List, [], ◌∷◌, Some, slice_get}
use Rattle.ato_rational.specs.Rational.{ℚ, ◌+ℚ◌, ◌*ℚ◌, ◌/ℚ◌, neg_ℚ, min_ℚ, max_ℚ, abs_ℚ, power_ℚ, zero_ℚ}
use Rattle.ato_rational.specs.Ranges.{AtEnds, IsApartFromZero}
use Rattle.ato_frac.specs.declared.fraction.Frac.{Frac}
use Rattle.ato_frac.specs.Fractions.{value_of, CanAdd, CanSubtract, CanMultiply, CanDivide}
use Rattle.ato_interval.specs.Ends.{Ends, Holds}
use Rattle.ato_frac.specs.Powers.{CanTurn, CanRaise, CannotRaise}
use Rattle.ato_interval.specs.Points.{IsOnlyZero}
use Rattle.ato_interval.specs.Results.{HoldsResults, IsResult, HoldsImage, IsImage}
use Rattle.ato_expr.specs.declared.ops.Op.{Op}
use Rattle.ato_expr.specs.declared.ops.Op.TheVariants as ops
use Rattle.ato_eval.specs.declared.reason.Reason.{Reason}
use Rattle.ato_eval.specs.declared.reason.Reason.TheVariants.{TooWide, ByZero, ZeroInside}
use Rattle.ato_expr.specs.Chains.{Chains, ChainStops}

-- r goes from the least to the greatest result over the values of a and b
pub record IsSpan (f : ℚ → ℚ → ℚ) (a b r : Ends Frac) : Type 0 where
  pub holds : HoldsResults value_of f a b r
  pub low_is : IsResult value_of f a b (value_of r.low)
  pub high_is : IsResult value_of f a b (value_of r.high)

-- r goes from the least to the greatest result over the values of a
pub record IsSpanOf (f : ℚ → ℚ) (a r : Ends Frac) : Type 0 where
  pub holds : HoldsImage value_of f a r
  pub low_is : IsImage value_of f a (value_of r.low)
  pub high_is : IsImage value_of f a (value_of r.high)

-- the sums of the ends are there
abbrev pub CanSum : Ends Frac → Ends Frac → Type 0
CanSum a b = CanAdd a.low b.low × CanAdd a.high b.high

abbrev pub IsSum : Ends Frac → Ends Frac → Ends Frac → Type 0
IsSum a b r = CanSum a b × IsSpan ◌+ℚ◌ a b r

-- the interval of an operation over the intervals of its children
abbrev pub GivesInterval : List (Ends Frac) → Op → List (Ends Frac) → Ends Frac → Type 0
GivesInterval ranges (ops.Var v) [] r = slice_get ranges v ≡ Some r
GivesInterval ranges (ops.Const q) [] r = (r.low ≡ q) × (r.high ≡ q)
GivesInterval ranges ops.Sum (a ∷ bs) r = Chains IsSum a bs r
GivesInterval ranges ops.Neg (a ∷ []) r = IsSpanOf neg_ℚ a r
GivesInterval ranges ops.Product (a ∷ b ∷ []) r = AtEnds CanMultiply a.low a.high b.low b.high × IsSpan ◌*ℚ◌ a b r
GivesInterval ranges ops.Quotient (a ∷ b ∷ []) r =
    IsApartFromZero (value_of b.low) (value_of b.high) × AtEnds CanDivide a.low a.high b.low b.high × IsSpan ◌/ℚ◌ a b r
GivesInterval ranges (ops.Power k) (a ∷ []) r =
    CanRaise value_of CanMultiply a.low k × CanRaise value_of CanMultiply a.high k × IsSpanOf (λ x. power_ℚ x k) a r
GivesInterval ranges ops.Min (a ∷ bs) r = Chains (IsSpan min_ℚ) a bs r
GivesInterval ranges ops.Max (a ∷ bs) r = Chains (IsSpan max_ℚ) a bs r
GivesInterval ranges ops.Abs (a ∷ []) r = CanTurn value_of CanSubtract a.low × CanTurn value_of CanSubtract a.high × IsSpanOf abs_ℚ a r
GivesInterval ranges op cs r = ⊥

-- why an operation gives none: an operation on ends is refused; the divisor has the value 0 and no other; it has 0 and others
abbrev pub RefusesInterval : Op → List (Ends Frac) → Reason → Type 0
RefusesInterval ops.Sum (a ∷ bs) TooWide = ChainStops IsSum (λ c d. ¬ CanSum c d) a bs
RefusesInterval ops.Product (a ∷ b ∷ []) TooWide = ¬ AtEnds CanMultiply a.low a.high b.low b.high
RefusesInterval ops.Quotient (a ∷ b ∷ []) TooWide =
    IsApartFromZero (value_of b.low) (value_of b.high) × ¬ AtEnds CanDivide a.low a.high b.low b.high
RefusesInterval ops.Quotient (a ∷ b ∷ []) ByZero = IsOnlyZero value_of b
RefusesInterval ops.Quotient (a ∷ b ∷ []) ZeroInside = Holds value_of b zero_ℚ × ¬ IsOnlyZero value_of b
RefusesInterval (ops.Power k) (a ∷ []) TooWide = CannotRaise value_of CanMultiply a.low k ⊎ CannotRaise value_of CanMultiply a.high k
RefusesInterval ops.Abs (a ∷ []) TooWide = ¬ (CanTurn value_of CanSubtract a.low × CanTurn value_of CanSubtract a.high)
RefusesInterval op cs reason = ⊥
