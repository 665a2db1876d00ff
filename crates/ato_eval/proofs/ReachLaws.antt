-- What is found at a corner of ranges.
use Rattle.std.proofs.Common.{◌≡◌, ◌≢◌, ℕ, zero, suc, Bool, true, false, List, [], ◌∷◌, length, subst, arith}
use Rattle.std.specs.Prelude.{Contains, Some, MatchBool, cond, not}
use Rattle.std.proofs.lemmas.Option.{none-some, same_Some}
use Rattle.ato_rational.specs.Rational.{◌≈ℚ◌}
use Rattle.ato_rational.proofs.Order.{≤ℚ_refl, ≈ℚ_refl}
use Rattle.ato_frac.specs.declared.fraction.Frac.{Frac}
use Rattle.ato_frac.specs.Fractions.{value_of}
use Rattle.ato_interval.specs.Ends.{Ends, Holds}
use Rattle.ato_interval.specs.Points.{point}
use Rattle.ato_expr.specs.declared.ops.Relation.{Relation}
use Rattle.ato_expr.specs.Tables.{Entry}
use Rattle.ato_expr.specs.Values.{roots_of}
use Rattle.ato_expr.proofs.LabelLaws.{stopped_unlabelled, stop_once}
use Rattle.ato_eval.specs.declared.judgement.Judgement.{Judgement}
use Rattle.ato_eval.specs.declared.judgement.Judgement.TheVariants as judgements
use Rattle.ato_eval.specs.declared.reason.Reason.{Reason}
use Rattle.ato_eval.specs.declared.reason.Reason.TheVariants.{TooWide}
use Rattle.ato_eval.specs.Corners.{narrowed}
use Rattle.ato_eval.specs.Intervals.{GivesInterval, RefusesInterval}
use Rattle.ato_eval.specs.Judgements.{ArePoints, HasInterval, IsInside, Judges, Stops}
use Rattle.ato_eval.specs.Plain.{corner, end_of, FailsAtCorner}
use Rattle.ato_eval.specs.Reaches.{named}
use Rattle.ato_eval.proofs.DecidedLaws.{not_unknown}
use Rattle.ato_eval.proofs.EnclosureLaws.{judged_false}
use Rattle.ato_eval.proofs.JudgementLaws.{gives_once, gives_or_refuses, refuses_once}

module _ (table : List Entry) (ranges : List (Ends Frac)) (relation : Relation) where
  -- where the sides have intervals, or another reason stops, nothing is too wide
  pub not_wide : ((k : ℕ) → Contains (roots_of relation) k → (a : Ends Frac) × HasInterval table ranges k a) → ¬ Judges table ranges relation judgements.Wide
  not_wide have s = stopped_unlabelled (GivesInterval ranges) RefusesInterval table (gives_once ranges) (gives_or_refuses ranges) refuses_once s have

  pub other_reason : (reason : Reason) → Stops table ranges relation reason → reason ≢ TooWide → ¬ Judges table ranges relation judgements.Wide
  other_reason reason s other t = other (stop_once (GivesInterval ranges) RefusesInterval table (gives_once ranges) (gives_or_refuses ranges) refuses_once s t)

  pub wide_told : (b : Bool) (reason : Reason) → Stops table ranges relation reason → MatchBool b (reason ≡ TooWide) (reason ≢ TooWide)
      → MatchBool (not b) (¬ Judges table ranges relation judgements.Wide) (Judges table ranges relation judgements.Wide)
  wide_told true reason s e = subst (λ r. Stops table ranges relation r) e s
  wide_told false reason s other = other_reason reason s other

at_end : (r : Ends Frac) (b : Bool) → Holds value_of (point (cond b r.high r.low)) (end_of (Some r) b)
at_end r true = record { above = ≤ℚ_refl _; below = ≤ℚ_refl _ }
at_end r false = record { above = ≤ℚ_refl _; below = ≤ℚ_refl _ }

at_point : (r : Ends Frac) (b : Bool) → value_of (point (cond b r.high r.low)).low ≈ℚ value_of (point (cond b r.high r.low)).high
at_point r true = ≈ℚ_refl _
at_point r false = ≈ℚ_refl _

-- ranges that are narrowed to ends are points
pub all_points : (ranges : List (Ends Frac)) (high : List Bool) → length high ≡ length ranges → ArePoints (narrowed ranges high)
all_points [] high same v r e = absurd (none-some r e)
all_points (i ∷ ranges) [] same v r e = absurd (omega (arith, same))
all_points (i ∷ ranges) (h ∷ high) same zero r e =
    subst (λ (a : Ends Frac). value_of a.low ≈ℚ value_of a.high) (same_Some (point (cond h i.high i.low)) r e) (at_point i h)
all_points (i ∷ ranges) (h ∷ high) same (suc v) r e = all_points ranges high (omega (arith, same)) v r e

pub decided : (table : List Entry) (ranges : List (Ends Frac)) (high : List Bool) (relation : Relation) (j : Judgement) → length high ≡ length ranges
    → Judges table (narrowed ranges high) relation j → j ≡ judgements.Unknown → ⊥
decided table ranges high relation j same h e =
    not_unknown (narrowed ranges high) (all_points ranges high same) table relation (subst (λ k. Judges table (narrowed ranges high) relation k) e h)

-- the corner is in ranges that are narrowed to the ends that it takes
pub corner_inside : (ranges : List (Ends Frac)) (high : List Bool) → length high ≡ length ranges → IsInside (narrowed ranges high) (corner ranges (named high))
corner_inside [] high same v r e = absurd (none-some r e)
corner_inside (i ∷ ranges) [] same v r e = absurd (omega (arith, same))
corner_inside (i ∷ ranges) (h ∷ high) same zero r e = subst (λ (a : Ends Frac). Holds value_of a (end_of (Some i) h)) (same_Some (point (cond h i.high i.low)) r e) (at_end i h)
corner_inside (i ∷ ranges) (h ∷ high) same (suc v) r e = corner_inside ranges high (omega (arith, same)) v r e

pub fails_there : (table : List Entry) (ranges : List (Ends Frac)) (high : List Bool) (relation : Relation) → length high ≡ length ranges
    → Judges table (narrowed ranges high) relation judgements.False → FailsAtCorner table ranges relation (named high)
fails_there table ranges high relation same j = judged_false (narrowed ranges high) (corner ranges (named high)) (corner_inside ranges high same) table relation j
