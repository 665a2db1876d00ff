-- Judgements from the intervals of the sides, or from the reason for which a node has none.
use Rattle.std.proofs.Common.{◌≡◌, inl, inr, ℕ, List, [], ◌∷◌, sym, subst}
use Rattle.std.specs.Prelude.{Contains}
use Rattle.ato_base.proofs.ClassLaws.{cases, first, later, nowhere}
use Rattle.ato_rational.specs.Rational.{ℚ, ◌≈ℚ◌, ◌≤ℚ◌, ◌<ℚ◌}
use Rattle.ato_rational.specs.Ranges.{IsWithin}
use Rattle.ato_rational.proofs.Order.{≤ℚ_trans, ≤ℚ_antisymm, ≈ℚ-≤ℚ, ≈ℚ_sym, clash_ℚ}
use Rattle.ato_frac.specs.declared.fraction.Frac.{Frac}
use Rattle.ato_frac.specs.Fractions.{value_of}
use Rattle.ato_interval.specs.Ends.{Ends, Holds}
use Rattle.ato_interval.specs.Targets.{IsInOne}
use Rattle.ato_expr.specs.declared.ops.Relation.{Relation}
use Rattle.ato_expr.specs.declared.ops.Relation.TheVariants as relations
use Rattle.ato_expr.specs.Tables.{Entry}
use Rattle.ato_expr.specs.Values.{LiesIn}
use Rattle.ato_expr.proofs.LabelLaws.{label_once}
use Rattle.ato_expr.proofs.ValueLaws.{one_root, two_roots}
use Rattle.ato_eval.specs.declared.judgement.Judgement.{Judgement}
use Rattle.ato_eval.specs.declared.judgement.Judgement.TheVariants as judgements
use Rattle.ato_eval.specs.declared.reason.Reason.{Reason}
use Rattle.ato_eval.specs.declared.reason.Reason.TheVariants.{TooWide, ByZero, ZeroInside}
use Rattle.ato_eval.specs.Intervals.{GivesInterval}
use Rattle.ato_eval.specs.Judgements.{HasInterval, Stops, OfSide, OfSides, Judges, judgement_of}
use Rattle.ato_eval.specs.Sides.{AreApart, IsSamePoint, Tells}
use Rattle.ato_eval.proofs.JudgementLaws.{gives_once}

-- ---- equal sides

abbrev pub Meet : Ends Frac → Ends Frac → Type 0
Meet a b = (x : ℚ) × Holds value_of a x × Holds value_of b x

pub same_point : (a b : Ends Frac) → Meet a b → value_of a.low ≈ℚ value_of a.high → value_of b.low ≈ℚ value_of b.high → IsSamePoint a b
same_point a b m d e = (
  d,
  ≤ℚ_antisymm
      (≤ℚ_trans (≈ℚ-≤ℚ (≈ℚ_sym d)) (≤ℚ_trans m.1.above (≤ℚ_trans m.2.below (≈ℚ-≤ℚ (≈ℚ_sym e)))))
      (≤ℚ_trans m.2.above m.1.below),
  e,
)

pub not_left : (a b : Ends Frac) → Meet a b → value_of a.low <ℚ value_of a.high → ¬ IsSamePoint a b × ¬ AreApart a b
not_left a b m h = (λ s. clash_ℚ h (≈ℚ-≤ℚ (≈ℚ_sym s.0)), λ apart. apart m.0 m.1 m.2)

pub not_right : (a b : Ends Frac) → Meet a b → value_of b.low <ℚ value_of b.high → ¬ IsSamePoint a b × ¬ AreApart a b
not_right a b m h = (λ s. clash_ℚ h (≈ℚ-≤ℚ (≈ℚ_sym s.2)), λ apart. apart m.0 m.1 m.2)

-- ---- targets

pub in_lies : (target : List (Frac × Frac)) (x : ℚ) → IsInOne value_of target x → LiesIn target x
in_lies [] x m = absurd m
in_lies (r ∷ rs) x (inl w) = record { range = r; one = first r rs; inside = w }
in_lies (r ∷ rs) x (inr m) = let l = in_lies rs x m in record { range = l.range; one = later r l.range rs l.one; inside = l.inside }

pub lies_in : (target : List (Frac × Frac)) (x : ℚ) → LiesIn target x → IsInOne value_of target x
lies_in [] x l = absurd (nowhere l.range l.one)
lies_in (r ∷ rs) x l =
    elim (cases r l.range rs l.one) [
      | inl e ↦ inl (subst (λ (p : Frac × Frac). IsWithin (value_of p.0) (value_of p.1) x) e l.inside)
      | inr more ↦ inr (lies_in rs x (record { range = l.range; one = more; inside = l.inside }))
    ]

module _ (table : List Entry) (ranges : List (Ends Frac)) where
  Once : {n : ℕ} {a b : Ends Frac} → HasInterval table ranges n a → HasInterval table ranges n b → a ≡ b
  Once h k = label_once (GivesInterval ranges) table (gives_once ranges) h k

  -- what the interval of one side does not tell, no interval of it does
  no_side : {n : ℕ} {a : Ends Frac} (P : Ends Frac → Type 0) → HasInterval table ranges n a → ¬ P a → ¬ OfSide table ranges n P
  no_side P h none s = none (subst P (Once s.1 h) s.2)

  no_sides : {m n : ℕ} {a b : Ends Frac} (P : Ends Frac → Ends Frac → Type 0) → HasInterval table ranges m a → HasInterval table ranges n b → ¬ P a b → ¬ OfSides table ranges m n P
  no_sides {a = a} P h k none s = none (subst (λ i. P a i) (Once s.3 k) (subst (λ i. P i s.1) (Once s.2 h) s.4))

  one_has : {n : ℕ} {a : Ends Frac} → HasInterval table ranges n a → (k : ℕ) → Contains (n ∷ []) k → OfSide table ranges k (λ i. Unit {0})
  one_has {n} {a} h = one_root (λ k. OfSide table ranges k (λ i. Unit {0})) n (a, h, tt)

  two_have : {m n : ℕ} {a b : Ends Frac} → HasInterval table ranges m a → HasInterval table ranges n b → (k : ℕ) → Contains (m ∷ n ∷ []) k → OfSide table ranges k (λ i. Unit {0})
  two_have {m} {n} {a} {b} h k = two_roots (λ i. OfSide table ranges i (λ j. Unit {0})) m n (a, h, tt) (b, k, tt)

  pub within_judged : (n : ℕ) (target : List (Frac × Frac)) (a : Ends Frac) (j : Judgement) → HasInterval table ranges n a
      → Tells j ((x : ℚ) → Holds value_of a x → IsInOne value_of target x) ((x : ℚ) → Holds value_of a x → ¬ IsInOne value_of target x)
      → Judges table ranges (relations.Within n target) j
  within_judged n target a judgements.True h t = (a, h, λ x w. in_lies target x (t x w))
  within_judged n target a judgements.False h t = inl (a, h, λ x w l. t x w (lies_in target x l))
  within_judged n target a judgements.Unknown h t =
      inl (
        one_has h,
        no_side (λ i. (x : ℚ) → Holds value_of i x → LiesIn target x) h (λ s. t.0 (λ x w. lies_in target x (s x w))),
        no_side (λ i. (x : ℚ) → Holds value_of i x → ¬ LiesIn target x) h (λ s. t.1 (λ x w m. s x w (in_lies target x m))),
      )
  within_judged n target a judgements.Wide h t = absurd t

  pub less_judged : (m n : ℕ) (a b : Ends Frac) (j : Judgement) → HasInterval table ranges m a → HasInterval table ranges n b
      → Tells j (value_of a.high <ℚ value_of b.low) (value_of b.high ≤ℚ value_of a.low) → Judges table ranges (relations.Less m n) j
  less_judged m n a b judgements.True h k t = (a, b, h, k, t)
  less_judged m n a b judgements.False h k t = inl (a, b, h, k, t)
  less_judged m n a b judgements.Unknown h k t =
      inl (two_have h k, no_sides (λ i j. value_of i.high <ℚ value_of j.low) h k t.0, no_sides (λ i j. value_of j.high ≤ℚ value_of i.low) h k t.1)
  less_judged m n a b judgements.Wide h k t = absurd t

  pub at_most_judged : (m n : ℕ) (a b : Ends Frac) (j : Judgement) → HasInterval table ranges m a → HasInterval table ranges n b
      → Tells j (value_of a.high ≤ℚ value_of b.low) (value_of b.high <ℚ value_of a.low) → Judges table ranges (relations.LessEq m n) j
  at_most_judged m n a b judgements.True h k t = (a, b, h, k, t)
  at_most_judged m n a b judgements.False h k t = inl (a, b, h, k, t)
  at_most_judged m n a b judgements.Unknown h k t =
      inl (two_have h k, no_sides (λ i j. value_of i.high ≤ℚ value_of j.low) h k t.0, no_sides (λ i j. value_of j.high <ℚ value_of i.low) h k t.1)
  at_most_judged m n a b judgements.Wide h k t = absurd t

  pub equal_judged : (m n : ℕ) (a b : Ends Frac) (j : Judgement) → HasInterval table ranges m a → HasInterval table ranges n b
      → Tells j (IsSamePoint a b) (AreApart a b) → Judges table ranges (relations.Equal m n) j
  equal_judged m n a b judgements.True h k t = (a, b, h, k, t)
  equal_judged m n a b judgements.False h k t = inl (a, b, h, k, t)
  equal_judged m n a b judgements.Unknown h k t = inl (two_have h k, no_sides (λ i j. IsSamePoint i j) h k t.0, no_sides (λ i j. AreApart i j) h k t.1)
  equal_judged m n a b judgements.Wide h k t = absurd t

  pub defined_judged : (n : ℕ) (a : Ends Frac) → HasInterval table ranges n a → Judges table ranges (relations.Defined n) judgements.True
  defined_judged n a h = (a, h, tt)

  -- the first node without an interval decides
  pub stop_judged : (relation : Relation) (reason : Reason) (j : Judgement) → j ≡ judgement_of reason → Stops table ranges relation reason → Judges table ranges relation j
  stop_judged relation TooWide j e s = subst (λ i. Judges table ranges relation i) (sym e) s
  stop_judged relation ByZero j e s = subst (λ i. Judges table ranges relation i) (sym e) (inr s)
  stop_judged relation ZeroInside j e s = subst (λ i. Judges table ranges relation i) (sym e) (inr s)
