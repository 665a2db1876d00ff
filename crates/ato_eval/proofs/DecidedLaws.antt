-- Over ranges of one point each the intervals of nodes are single points too, so that a relation is judged True, False or Wide.
use Rattle.std.proofs.Common.{◌≡◌, ℕ, Bool, true, false, List, [], ◌∷◌, refl, ap, sym, subst, ⊎_elim}
use Rattle.std.proofs.lemmas.Bool.{true≢false}
use Rattle.ato_base.proofs.ClassLaws.{first, later}
use Rattle.ato_rational.specs.Rational.{ℚ, ◌≈ℚ◌, ◌+ℚ◌, ◌*ℚ◌, ◌/ℚ◌, neg_ℚ, min_ℚ, max_ℚ, abs_ℚ, power_ℚ}
use Rattle.ato_rational.specs.Ranges.{IsWithin, IsApartFromZero}
use Rattle.ato_rational.proofs.Order.{≤ℚ_trans, ≤ℚ_antisymm, ≤ℚ_or_<ℚ, <ℚ-≤ℚ_trans, ≤ℚ-<ℚ_trans, ≈ℚ-≤ℚ, ≈ℚ_refl, ≈ℚ_sym, ≈ℚ_trans, clash_ℚ, +ℚ_same, *ℚ_same, neg_ℚ_same}
use Rattle.ato_rational.proofs.Fields.{inverse_ℚ_same}
use Rattle.ato_rational.proofs.Extremes.{min_ℚ_mono}
use Rattle.ato_frac.specs.declared.fraction.Frac.{Frac}
use Rattle.ato_frac.specs.Fractions.{value_of}
use Rattle.ato_interval.specs.Ends.{Ends}
use Rattle.ato_interval.specs.Points.{IsPoint}
use Rattle.ato_expr.specs.declared.ops.Op.{Op}
use Rattle.ato_expr.specs.declared.ops.Op.TheVariants as ops
use Rattle.ato_expr.specs.declared.ops.Relation.{Relation}
use Rattle.ato_expr.specs.declared.ops.Relation.TheVariants as relations
use Rattle.ato_expr.specs.Tables.{Entry}
use Rattle.ato_expr.specs.Chains.{Chains}
use Rattle.ato_expr.proofs.AtPointLaws.{max_same, power_same}
use Rattle.ato_expr.proofs.LabelLaws.{AreRelated, carried, all_carried}
use Rattle.ato_eval.specs.declared.judgement.Judgement.TheVariants as judgements
use Rattle.ato_eval.specs.declared.reason.Reason.{Reason}
use Rattle.ato_eval.specs.declared.reason.Reason.TheVariants.{ZeroInside}
use Rattle.ato_eval.specs.Intervals.{IsSpan, IsSpanOf, IsSum, GivesInterval, RefusesInterval}
use Rattle.ato_eval.specs.Judgements.{ArePoints, HasInterval, Stops, IsSure, IsDenied, AllHave, Judges}
use Rattle.ato_eval.proofs.EnclosureLaws.{divisor_not_zero}
use Rattle.ato_eval.proofs.JudgementLaws.{is_quotient, wide_alone}
use Rattle.ato_eval.proofs.LiesLaws.{lies_told, lies_same}

-- a point holds one value
held_once : (a : Ends Frac) {x y : ℚ} → IsPoint value_of a → IsWithin (value_of a.low) (value_of a.high) x → IsWithin (value_of a.low) (value_of a.high) y → x ≈ℚ y
held_once a p v w =
    ≤ℚ_antisymm
    (≤ℚ_trans v.below (≤ℚ_trans (≈ℚ-≤ℚ (≈ℚ_sym p)) w.above))
    (≤ℚ_trans w.below (≤ℚ_trans (≈ℚ-≤ℚ (≈ℚ_sym p)) v.above))

held_low : (a : Ends Frac) → IsPoint value_of a → IsWithin (value_of a.low) (value_of a.high) (value_of a.low)
held_low a p = record { above = ≈ℚ-≤ℚ (≈ℚ_refl _); below = ≈ℚ-≤ℚ p }

-- ---- operations on points give points

span_point : (f : ℚ → ℚ → ℚ) → ((x y z w : ℚ) → x ≈ℚ y → z ≈ℚ w → f x z ≈ℚ f y w) → (a b r : Ends Frac)
    → IsPoint value_of a → IsPoint value_of b → IsSpan f a b r → IsPoint value_of r
span_point f same a b r p q s =
    ≈ℚ_trans s.low_is.same
    (≈ℚ_trans (same _ _ _ _ (held_once a p s.low_is.left_in s.high_is.left_in) (held_once b q s.low_is.right_in s.high_is.right_in)) (≈ℚ_sym s.high_is.same))

quotient_point : (a b r : Ends Frac) → IsApartFromZero (value_of b.low) (value_of b.high) → IsPoint value_of a → IsPoint value_of b → IsSpan ◌/ℚ◌ a b r → IsPoint value_of r
quotient_point a b r apart p q s =
    ≈ℚ_trans s.low_is.same
    (≈ℚ_trans
    (*ℚ_same (held_once a p s.low_is.left_in s.high_is.left_in)
    (inverse_ℚ_same s.low_is.right s.high_is.right (divisor_not_zero apart s.low_is.right_in) (held_once b q s.low_is.right_in s.high_is.right_in)))
    (≈ℚ_sym s.high_is.same))

image_point : (f : ℚ → ℚ) → ((x y : ℚ) → x ≈ℚ y → f x ≈ℚ f y) → (a r : Ends Frac) → IsPoint value_of a → IsSpanOf f a r → IsPoint value_of r
image_point f same a r p s = ≈ℚ_trans s.low_is.same (≈ℚ_trans (same _ _ (held_once a p s.low_is.argument_in s.high_is.argument_in)) (≈ℚ_sym s.high_is.same))

min_same : {x y z w : ℚ} → x ≈ℚ y → z ≈ℚ w → min_ℚ x z ≈ℚ min_ℚ y w
min_same {x} {y} {z} {w} d e = ≤ℚ_antisymm (min_ℚ_mono x y z w (≈ℚ-≤ℚ d) (≈ℚ-≤ℚ e)) (min_ℚ_mono y x w z (≈ℚ-≤ℚ (≈ℚ_sym d)) (≈ℚ-≤ℚ (≈ℚ_sym e)))

-- a mark beside each interval says that it is a point
abbrev IsOne : Ends Frac → Bool → Type 0
IsOne a m = IsPoint value_of a

chain_point : (Step : Ends Frac → Ends Frac → Ends Frac → Type 0)
    → ((a b r : Ends Frac) → IsPoint value_of a → IsPoint value_of b → Step a b r → IsPoint value_of r)
    → (a : Ends Frac) (bs : List (Ends Frac)) (r : Ends Frac) (ms : List Bool) → Chains Step a bs r → IsPoint value_of a → AreRelated IsOne bs ms → IsPoint value_of r
chain_point Step points a [] r ms c p ps = subst (λ (e : Ends Frac). IsPoint value_of e) c p
chain_point Step points a (b ∷ bs) r [] c p ps = absurd ps
chain_point Step points a (b ∷ bs) r (m ∷ ms) c p ps = chain_point Step points c.0 bs r ms c.2 (points a b c.0 p ps.0 c.1) ps.1

module _ (ranges : List (Ends Frac)) (one : ArePoints ranges) where
  gives_point : (op : Op) (cs : List (Ends Frac)) (r : Ends Frac) (ms : List Bool) → GivesInterval ranges op cs r → AreRelated IsOne cs ms → IsPoint value_of r
  gives_point (ops.Var v) [] r ms g ps = one v r g
  gives_point (ops.Var v) (a ∷ cs) r ms g ps = absurd g
  gives_point (ops.Const q) [] r ms g ps = subst (λ t. value_of t ≈ℚ value_of r.high) (sym g.0) (subst (λ t. value_of q ≈ℚ value_of t) (sym g.1) (≈ℚ_refl _))
  gives_point (ops.Const q) (a ∷ cs) r ms g ps = absurd g
  gives_point ops.Sum [] r ms g ps = absurd g
  gives_point ops.Sum (a ∷ cs) r [] g ps = absurd ps
  gives_point ops.Sum (a ∷ cs) r (m ∷ ms) g ps = chain_point IsSum (λ c d s p q h. span_point ◌+ℚ◌ (λ x y z w. +ℚ_same) c d s p q h.1) a cs r ms g ps.0 ps.1
  gives_point ops.Neg [] r ms g ps = absurd g
  gives_point ops.Neg (a ∷ []) r [] g ps = absurd ps
  gives_point ops.Neg (a ∷ []) r (m ∷ ms) g ps = image_point neg_ℚ (λ x y. neg_ℚ_same) a r ps.0 g
  gives_point ops.Neg (a ∷ b ∷ cs) r ms g ps = absurd g
  gives_point ops.Product [] r ms g ps = absurd g
  gives_point ops.Product (a ∷ []) r ms g ps = absurd g
  gives_point ops.Product (a ∷ b ∷ []) r [] g ps = absurd ps
  gives_point ops.Product (a ∷ b ∷ []) r (m ∷ []) g ps = absurd ps.1
  gives_point ops.Product (a ∷ b ∷ []) r (m ∷ n ∷ ms) g ps = span_point ◌*ℚ◌ (λ x y z w. *ℚ_same) a b r ps.0 ps.1.0 g.1
  gives_point ops.Product (a ∷ b ∷ c ∷ cs) r ms g ps = absurd g
  gives_point ops.Quotient [] r ms g ps = absurd g
  gives_point ops.Quotient (a ∷ []) r ms g ps = absurd g
  gives_point ops.Quotient (a ∷ b ∷ []) r [] g ps = absurd ps
  gives_point ops.Quotient (a ∷ b ∷ []) r (m ∷ []) g ps = absurd ps.1
  gives_point ops.Quotient (a ∷ b ∷ []) r (m ∷ n ∷ ms) g ps = quotient_point a b r g.0 ps.0 ps.1.0 g.2
  gives_point ops.Quotient (a ∷ b ∷ c ∷ cs) r ms g ps = absurd g
  gives_point (ops.Power k) [] r ms g ps = absurd g
  gives_point (ops.Power k) (a ∷ []) r [] g ps = absurd ps
  gives_point (ops.Power k) (a ∷ []) r (m ∷ ms) g ps = image_point (λ x. power_ℚ x k) (λ x y. power_same k) a r ps.0 g.2
  gives_point (ops.Power k) (a ∷ b ∷ cs) r ms g ps = absurd g
  gives_point ops.Min [] r ms g ps = absurd g
  gives_point ops.Min (a ∷ cs) r [] g ps = absurd ps
  gives_point ops.Min (a ∷ cs) r (m ∷ ms) g ps = chain_point (IsSpan min_ℚ) (λ c d s p q h. span_point min_ℚ (λ x y z w. min_same) c d s p q h) a cs r ms g ps.0 ps.1
  gives_point ops.Max [] r ms g ps = absurd g
  gives_point ops.Max (a ∷ cs) r [] g ps = absurd ps
  gives_point ops.Max (a ∷ cs) r (m ∷ ms) g ps = chain_point (IsSpan max_ℚ) (λ c d s p q h. span_point max_ℚ (λ x y z w. max_same) c d s p q h) a cs r ms g ps.0 ps.1
  gives_point ops.Abs [] r ms g ps = absurd g
  gives_point ops.Abs (a ∷ []) r [] g ps = absurd ps
  gives_point ops.Abs (a ∷ []) r (m ∷ ms) g ps = image_point abs_ℚ (λ x y e. max_same e (neg_ℚ_same e)) a r ps.0 g.2
  gives_point ops.Abs (a ∷ b ∷ cs) r ms g ps = absurd g

  abbrev GivesMark : Op → List Bool → Bool → Type 0
  GivesMark op ms m = Unit {0}

  step : (op : Op) (cs : List (Ends Frac)) (r : Ends Frac) (ms : List Bool) → GivesInterval ranges op cs r → AreRelated IsOne cs ms → (m : Bool) × GivesMark op ms m × IsOne r m
  step op cs r ms g ps = (true, tt, gives_point op cs r ms g ps)

  -- a divisor of one point that holds 0 has no other value
  quotient_told : (cs : List (Ends Frac)) (ms : List Bool) → RefusesInterval ops.Quotient cs ZeroInside → AreRelated IsOne cs ms → ⊥
  quotient_told [] ms h ps = absurd h
  quotient_told (a ∷ []) ms h ps = absurd h
  quotient_told (a ∷ b ∷ []) [] h ps = absurd ps
  quotient_told (a ∷ b ∷ []) (m ∷ []) h ps = absurd ps.1
  quotient_told (a ∷ b ∷ []) (m ∷ n ∷ ms) h ps =
      let low = held_once b ps.1.0 (held_low b ps.1.0) h.0 in
      h.1 (low, ≈ℚ_trans (≈ℚ_sym ps.1.0) low)
  quotient_told (a ∷ b ∷ c ∷ cs) ms h ps = absurd h

  abbrev is_zero_inside : Reason → Bool
  is_zero_inside ZeroInside = true
  is_zero_inside p = false

  refused_told : (op : Op) (cs : List (Ends Frac)) (ms : List Bool) → RefusesInterval op cs ZeroInside → AreRelated IsOne cs ms → ⊥
  refused_told op cs ms h ps = by (is_quotient op) refl
    where
      quotient : (o : Op) → is_quotient o ≡ true → RefusesInterval o cs ZeroInside → ⊥
      quotient ops.Quotient e r = quotient_told cs ms r ps
      quotient o e r = absurd (true≢false (sym e))

      by : (b : Bool) → is_quotient op ≡ b → ⊥
      by true e = quotient op e h
      by false e = true≢false (ap is_zero_inside (wide_alone op cs ZeroInside e h))

  module _ (table : List Entry) where
    node_point : {n : ℕ} {a : Ends Frac} → HasInterval table ranges n a → IsPoint value_of a
    node_point have = (carried IsOne (GivesInterval ranges) GivesMark table step have).2

    not_stopped : (relation : Relation) → Stops table ranges relation ZeroInside → ⊥
    not_stopped relation s =
        let r = s.1.refused in
        let marks = all_carried IsOne (GivesInterval ranges) GivesMark table step r.have in
        refused_told r.entry.op r.labels marks.0 r.refused marks.2

    -- points on both sides are in order or not
    told : (relation : Relation) → AllHave table ranges relation → ¬ IsSure table ranges relation → ¬ IsDenied table ranges relation → ⊥
    told (relations.Within n target) have unsure undenied =
        let a = have n (first n []) in
        let p = node_point a.1 in
        ⊎_elim
        (λ l. unsure (a.0, a.1, λ x w. lies_same target (held_once a.0 p (held_low a.0 p) w) l))
        (λ none. undenied (a.0, a.1, λ x w l. none (lies_same target (held_once a.0 p w (held_low a.0 p)) l)))
        (lies_told target (value_of a.0.low))
    told (relations.Less m n) have unsure undenied =
        let a = have m (first m (n ∷ [])) in
        let b = have n (later m n (n ∷ []) (first n [])) in
        ⊎_elim
        (λ h. undenied (a.0, b.0, a.1, b.1, ≤ℚ_trans (≈ℚ-≤ℚ (≈ℚ_sym (node_point b.1))) (≤ℚ_trans h (≈ℚ-≤ℚ (≈ℚ_sym (node_point a.1))))))
        (λ h. unsure (a.0, b.0, a.1, b.1, h))
        (≤ℚ_or_<ℚ (value_of b.0.low) (value_of a.0.high))
    told (relations.LessEq m n) have unsure undenied =
        let a = have m (first m (n ∷ [])) in
        let b = have n (later m n (n ∷ []) (first n [])) in
        ⊎_elim
        (λ h. unsure (a.0, b.0, a.1, b.1, h))
        (λ h. undenied (a.0, b.0, a.1, b.1, ≤ℚ-<ℚ_trans (≈ℚ-≤ℚ (≈ℚ_sym (node_point b.1))) (<ℚ-≤ℚ_trans h (≈ℚ-≤ℚ (≈ℚ_sym (node_point a.1))))))
        (≤ℚ_or_<ℚ (value_of a.0.high) (value_of b.0.low))
    told (relations.Equal m n) have unsure undenied =
        let a = have m (first m (n ∷ [])) in
        let b = have n (later m n (n ∷ []) (first n [])) in
        let p = node_point a.1 in
        let q = node_point b.1 in
        ⊎_elim
        (λ h. ⊎_elim
        (λ k. unsure (a.0, b.0, a.1, b.1, (p, ≤ℚ_antisymm h (≤ℚ_trans k (≈ℚ-≤ℚ p)), q)))
        (λ k. undenied (a.0, b.0, a.1, b.1, λ x v w. clash_ℚ k (≤ℚ_trans w.above (≤ℚ_trans v.below (≈ℚ-≤ℚ (≈ℚ_sym p))))))
        (≤ℚ_or_<ℚ (value_of b.0.low) (value_of a.0.low)))
        (λ h. undenied (a.0, b.0, a.1, b.1, λ x v w. clash_ℚ h (≤ℚ_trans (≈ℚ-≤ℚ (≈ℚ_sym p)) (≤ℚ_trans v.above (≤ℚ_trans w.below (≈ℚ-≤ℚ (≈ℚ_sym q)))))))
        (≤ℚ_or_<ℚ (value_of a.0.high) (value_of b.0.low))
    told (relations.Defined n) have unsure undenied =
        let a = have n (first n []) in
        unsure (a.0, a.1, tt)

    pub not_unknown : (relation : Relation) → Judges table ranges relation judgements.Unknown → ⊥
    not_unknown relation j = ⊎_elim (λ u. told relation u.0 u.1 u.2) (λ s. not_stopped relation s) j
