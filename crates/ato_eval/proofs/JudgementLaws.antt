-- A node has at most one interval, an operation is refused for one reason at most, and a relation over ranges has one judgement
-- at most.
use Rattle.std.proofs.Common.{◌≡◌, ℕ, Bool, true, false, List, [], ◌∷◌, refl, ap, ap₂, sym, ◌∙◌, subst, inl, inr, ⊎_elim}
use Rattle.std.specs.Prelude.{Contains}
use Rattle.std.proofs.lemmas.Option.{same_Some}
use Rattle.std.proofs.lemmas.Bool.{true≢false}
use Rattle.ato_base.proofs.ClassLaws.{cases, nowhere}
use Rattle.ato_rational.specs.Rational.{ℚ, ◌≈ℚ◌, ◌+ℚ◌, ◌*ℚ◌, ◌/ℚ◌, neg_ℚ, min_ℚ, max_ℚ, abs_ℚ, power_ℚ, zero_ℚ}
use Rattle.ato_rational.specs.Ranges.{IsWithin, IsApartFromZero}
use Rattle.ato_rational.proofs.Order.{≤ℚ_trans, ≤ℚ_antisymm, ≈ℚ-≤ℚ, ≈ℚ_sym, ≈ℚ_trans, clash_ℚ}
use Rattle.ato_frac.specs.declared.fraction.Frac.{Frac}
use Rattle.ato_frac.specs.Fractions.{value_of, CanMultiply}
use Rattle.ato_frac.specs.OneNumber.{fraction_same}
use Rattle.ato_interval.specs.Ends.{Ends, Holds}
use Rattle.ato_frac.specs.Powers.{CanRaise, CannotRaise}
use Rattle.ato_interval.specs.Points.{IsOnlyZero}
use Rattle.ato_interval.specs.Results.{HoldsResults, IsResult, HoldsImage, IsImage}
use Rattle.ato_expr.specs.declared.ops.Op.{Op}
use Rattle.ato_expr.specs.declared.ops.Op.TheVariants as ops
use Rattle.ato_expr.specs.Tables.{Entry}
use Rattle.ato_expr.specs.declared.ops.Relation.{Relation}
use Rattle.ato_expr.specs.declared.ops.Relation.TheVariants as relations
use Rattle.ato_expr.specs.Chains.{Chains, ChainStops}
use Rattle.ato_expr.specs.Values.{roots_of}
use Rattle.ato_expr.proofs.LabelLaws.{stopped_unlabelled, stop_once}
use Rattle.ato_eval.specs.declared.judgement.Judgement.{Judgement}
use Rattle.ato_eval.specs.declared.judgement.Judgement.TheVariants as judgements
use Rattle.ato_eval.specs.declared.reason.Reason.{Reason}
use Rattle.ato_eval.specs.declared.reason.Reason.TheVariants.{TooWide, ByZero, ZeroInside}
use Rattle.ato_eval.specs.Intervals.{IsSpan, IsSpanOf, CanSum, IsSum, GivesInterval, RefusesInterval}
use Rattle.ato_eval.specs.Judgements.{IsInside, HasInterval, Stops, IsSure, IsDenied, AllHave, Judges}
use Rattle.ato_eval.proofs.EnclosureLaws.{sure_holds, denied_fails}

-- ---- one interval

same_ends : (r s : Ends Frac) → value_of r.low ≈ℚ value_of s.low → value_of r.high ≈ℚ value_of s.high → r ≡ s
same_ends r s d e = ap₂ (λ (l h : Frac). record { low = l; high = h }) (fraction_same r.low s.low d) (fraction_same r.high s.high e)

module _ (f : ℚ → ℚ → ℚ) (a b : Ends Frac) where
  held_end : (s : Ends Frac) (z : ℚ) → HoldsResults value_of f a b s → IsResult value_of f a b z → Holds value_of s z
  held_end s z h r =
      let w = h r.left r.right r.left_in r.right_in in
      record { above = ≤ℚ_trans w.above (≈ℚ-≤ℚ (≈ℚ_sym r.same)); below = ≤ℚ_trans (≈ℚ-≤ℚ r.same) w.below }

  span_once : (r s : Ends Frac) → IsSpan f a b r → IsSpan f a b s → r ≡ s
  span_once r s p q =
      same_ends r s
      (≤ℚ_antisymm (held_end r _ p.holds q.low_is).above (held_end s _ q.holds p.low_is).above)
      (≤ℚ_antisymm (held_end s _ q.holds p.high_is).below (held_end r _ p.holds q.high_is).below)

module _ (f : ℚ → ℚ) (a : Ends Frac) where
  held_image : (s : Ends Frac) (z : ℚ) → HoldsImage value_of f a s → IsImage value_of f a z → Holds value_of s z
  held_image s z h r =
      let w = h r.argument r.argument_in in
      record { above = ≤ℚ_trans w.above (≈ℚ-≤ℚ (≈ℚ_sym r.same)); below = ≤ℚ_trans (≈ℚ-≤ℚ r.same) w.below }

  image_once : (r s : Ends Frac) → IsSpanOf f a r → IsSpanOf f a s → r ≡ s
  image_once r s p q =
      same_ends r s
      (≤ℚ_antisymm (held_image r _ p.holds q.low_is).above (held_image s _ q.holds p.low_is).above)
      (≤ℚ_antisymm (held_image s _ q.holds p.high_is).below (held_image r _ p.holds q.high_is).below)

chain_once : (Step : Ends Frac → Ends Frac → Ends Frac → Type 0) → ((a b r s : Ends Frac) → Step a b r → Step a b s → r ≡ s)
    → (a : Ends Frac) (bs : List (Ends Frac)) (r s : Ends Frac) → Chains Step a bs r → Chains Step a bs s → r ≡ s
chain_once Step once a [] r s c d = sym c ∙ d
chain_once Step once a (b ∷ bs) r s c d =
    chain_once Step once c.0 bs r s c.2 (subst (λ k. Chains Step k bs s) (sym (once a b c.0 d.0 c.1 d.1)) d.2)

chain_clash : (Step : Ends Frac → Ends Frac → Ends Frac → Type 0) (Refused : Ends Frac → Ends Frac → Type 0)
    → ((a b r s : Ends Frac) → Step a b r → Step a b s → r ≡ s) → ((a b r : Ends Frac) → Step a b r → Refused a b → ⊥)
    → (a : Ends Frac) (bs : List (Ends Frac)) (r : Ends Frac) → Chains Step a bs r → ChainStops Step Refused a bs → ⊥
chain_clash Step Refused once clash a [] r c d = absurd d
chain_clash Step Refused once clash a (b ∷ bs) r c (inl h) = clash a b c.0 c.1 h
chain_clash Step Refused once clash a (b ∷ bs) r c (inr d) =
    chain_clash Step Refused once clash c.0 bs r c.2 (subst (λ k. ChainStops Step Refused k bs) (sym (once a b c.0 d.0 c.1 d.1)) d.2)

sum_once : (a b r s : Ends Frac) → IsSum a b r → IsSum a b s → r ≡ s
sum_once a b r s p q = span_once ◌+ℚ◌ a b r s p.1 q.1

pub gives_once : (ranges : List (Ends Frac)) (op : Op) (cs : List (Ends Frac)) (r s : Ends Frac) → GivesInterval ranges op cs r → GivesInterval ranges op cs s → r ≡ s
gives_once ranges (ops.Var v) [] r s g h = same_Some r s (sym g ∙ h)
gives_once ranges (ops.Var v) (a ∷ cs) r s g h = absurd g
gives_once ranges (ops.Const q) [] r s g h = ap₂ (λ (l t : Frac). record { low = l; high = t }) (g.0 ∙ sym h.0) (g.1 ∙ sym h.1)
gives_once ranges (ops.Const q) (a ∷ cs) r s g h = absurd g
gives_once ranges ops.Sum [] r s g h = absurd g
gives_once ranges ops.Sum (a ∷ cs) r s g h = chain_once IsSum sum_once a cs r s g h
gives_once ranges ops.Neg [] r s g h = absurd g
gives_once ranges ops.Neg (a ∷ []) r s g h = image_once neg_ℚ a r s g h
gives_once ranges ops.Neg (a ∷ b ∷ cs) r s g h = absurd g
gives_once ranges ops.Product [] r s g h = absurd g
gives_once ranges ops.Product (a ∷ []) r s g h = absurd g
gives_once ranges ops.Product (a ∷ b ∷ []) r s g h = span_once ◌*ℚ◌ a b r s g.1 h.1
gives_once ranges ops.Product (a ∷ b ∷ c ∷ cs) r s g h = absurd g
gives_once ranges ops.Quotient [] r s g h = absurd g
gives_once ranges ops.Quotient (a ∷ []) r s g h = absurd g
gives_once ranges ops.Quotient (a ∷ b ∷ []) r s g h = span_once ◌/ℚ◌ a b r s g.2 h.2
gives_once ranges ops.Quotient (a ∷ b ∷ c ∷ cs) r s g h = absurd g
gives_once ranges (ops.Power k) [] r s g h = absurd g
gives_once ranges (ops.Power k) (a ∷ []) r s g h = image_once (λ x. power_ℚ x k) a r s g.2 h.2
gives_once ranges (ops.Power k) (a ∷ b ∷ cs) r s g h = absurd g
gives_once ranges ops.Min [] r s g h = absurd g
gives_once ranges ops.Min (a ∷ cs) r s g h = chain_once (IsSpan min_ℚ) (span_once min_ℚ) a cs r s g h
gives_once ranges ops.Max [] r s g h = absurd g
gives_once ranges ops.Max (a ∷ cs) r s g h = chain_once (IsSpan max_ℚ) (span_once max_ℚ) a cs r s g h
gives_once ranges ops.Abs [] r s g h = absurd g
gives_once ranges ops.Abs (a ∷ []) r s g h = image_once abs_ℚ a r s g.2 h.2
gives_once ranges ops.Abs (a ∷ b ∷ cs) r s g h = absurd g

-- ---- one reason, and no reason beside an interval

raise_clash : (x : Frac) (k : ℕ) → CanRaise value_of CanMultiply x k → CannotRaise value_of CanMultiply x k → ⊥
raise_clash x k can cannot =
    let own = can cannot.exponent cannot.from_one cannot.below in
    cannot.refused.holds
    (subst (λ p. CanMultiply p x) (fraction_same own.power cannot.refused.power (≈ℚ_trans own.is_power (≈ℚ_sym cannot.refused.is_power))) own.holds)

pub apart_clash : {l h : ℚ} → IsApartFromZero l h → IsWithin l h zero_ℚ → ⊥
apart_clash (inl p) w = clash_ℚ p w.above
apart_clash (inr p) w = clash_ℚ p w.below

pub only_held : (b : Ends Frac) → IsOnlyZero value_of b → Holds value_of b zero_ℚ
only_held b o = record { above = ≈ℚ-≤ℚ o.0; below = ≈ℚ-≤ℚ (≈ℚ_sym o.1) }

pub gives_or_refuses : (ranges : List (Ends Frac)) (op : Op) (cs : List (Ends Frac)) (r : Ends Frac) (p : Reason) → GivesInterval ranges op cs r → RefusesInterval op cs p → ⊥
gives_or_refuses ranges (ops.Var v) cs r p g h = absurd h
gives_or_refuses ranges (ops.Const q) cs r p g h = absurd h
gives_or_refuses ranges ops.Sum [] r p g h = absurd h
gives_or_refuses ranges ops.Sum (a ∷ cs) r TooWide g h = chain_clash IsSum (λ c d. ¬ CanSum c d) sum_once (λ c d s t n. n t.0) a cs r g h
gives_or_refuses ranges ops.Sum (a ∷ cs) r ByZero g h = absurd h
gives_or_refuses ranges ops.Sum (a ∷ cs) r ZeroInside g h = absurd h
gives_or_refuses ranges ops.Neg cs r p g h = absurd h
gives_or_refuses ranges ops.Product [] r p g h = absurd h
gives_or_refuses ranges ops.Product (a ∷ []) r p g h = absurd h
gives_or_refuses ranges ops.Product (a ∷ b ∷ []) r TooWide g h = h g.0
gives_or_refuses ranges ops.Product (a ∷ b ∷ []) r ByZero g h = absurd h
gives_or_refuses ranges ops.Product (a ∷ b ∷ []) r ZeroInside g h = absurd h
gives_or_refuses ranges ops.Product (a ∷ b ∷ c ∷ cs) r p g h = absurd h
gives_or_refuses ranges ops.Quotient [] r p g h = absurd h
gives_or_refuses ranges ops.Quotient (a ∷ []) r p g h = absurd h
gives_or_refuses ranges ops.Quotient (a ∷ b ∷ []) r TooWide g h = h.1 g.1
gives_or_refuses ranges ops.Quotient (a ∷ b ∷ []) r ByZero g h = apart_clash g.0 (only_held b h)
gives_or_refuses ranges ops.Quotient (a ∷ b ∷ []) r ZeroInside g h = apart_clash g.0 h.0
gives_or_refuses ranges ops.Quotient (a ∷ b ∷ c ∷ cs) r p g h = absurd h
gives_or_refuses ranges (ops.Power k) [] r p g h = absurd h
gives_or_refuses ranges (ops.Power k) (a ∷ []) r TooWide g h = ⊎_elim (raise_clash a.low k g.0) (raise_clash a.high k g.1) h
gives_or_refuses ranges (ops.Power k) (a ∷ []) r ByZero g h = absurd h
gives_or_refuses ranges (ops.Power k) (a ∷ []) r ZeroInside g h = absurd h
gives_or_refuses ranges (ops.Power k) (a ∷ b ∷ cs) r p g h = absurd h
gives_or_refuses ranges ops.Min cs r p g h = absurd h
gives_or_refuses ranges ops.Max cs r p g h = absurd h
gives_or_refuses ranges ops.Abs [] r p g h = absurd h
gives_or_refuses ranges ops.Abs (a ∷ []) r TooWide g h = h (g.0, g.1)
gives_or_refuses ranges ops.Abs (a ∷ []) r ByZero g h = absurd h
gives_or_refuses ranges ops.Abs (a ∷ []) r ZeroInside g h = absurd h
gives_or_refuses ranges ops.Abs (a ∷ b ∷ cs) r p g h = absurd h

abbrev pub is_quotient : Op → Bool
is_quotient ops.Quotient = true
is_quotient op = false

pub wide_alone : (op : Op) (cs : List (Ends Frac)) (p : Reason) → is_quotient op ≡ false → RefusesInterval op cs p → p ≡ TooWide
wide_alone (ops.Var v) cs p e h = absurd h
wide_alone (ops.Const q) cs p e h = absurd h
wide_alone ops.Sum [] p e h = absurd h
wide_alone ops.Sum (a ∷ cs) TooWide e h = refl
wide_alone ops.Sum (a ∷ cs) ByZero e h = absurd h
wide_alone ops.Sum (a ∷ cs) ZeroInside e h = absurd h
wide_alone ops.Neg cs p e h = absurd h
wide_alone ops.Product [] p e h = absurd h
wide_alone ops.Product (a ∷ []) p e h = absurd h
wide_alone ops.Product (a ∷ b ∷ []) TooWide e h = refl
wide_alone ops.Product (a ∷ b ∷ []) ByZero e h = absurd h
wide_alone ops.Product (a ∷ b ∷ []) ZeroInside e h = absurd h
wide_alone ops.Product (a ∷ b ∷ c ∷ cs) p e h = absurd h
wide_alone ops.Quotient cs p e h = absurd (true≢false e)
wide_alone (ops.Power k) [] p e h = absurd h
wide_alone (ops.Power k) (a ∷ []) TooWide e h = refl
wide_alone (ops.Power k) (a ∷ []) ByZero e h = absurd h
wide_alone (ops.Power k) (a ∷ []) ZeroInside e h = absurd h
wide_alone (ops.Power k) (a ∷ b ∷ cs) p e h = absurd h
wide_alone ops.Min cs p e h = absurd h
wide_alone ops.Max cs p e h = absurd h
wide_alone ops.Abs [] p e h = absurd h
wide_alone ops.Abs (a ∷ []) TooWide e h = refl
wide_alone ops.Abs (a ∷ []) ByZero e h = absurd h
wide_alone ops.Abs (a ∷ []) ZeroInside e h = absurd h
wide_alone ops.Abs (a ∷ b ∷ cs) p e h = absurd h

quotient_reason : (cs : List (Ends Frac)) (p q : Reason) → RefusesInterval ops.Quotient cs p → RefusesInterval ops.Quotient cs q → p ≡ q
quotient_reason [] p q h k = absurd h
quotient_reason (a ∷ []) p q h k = absurd h
quotient_reason (a ∷ b ∷ []) TooWide TooWide h k = refl
quotient_reason (a ∷ b ∷ []) TooWide ByZero h k = absurd (apart_clash h.0 (only_held b k))
quotient_reason (a ∷ b ∷ []) TooWide ZeroInside h k = absurd (apart_clash h.0 k.0)
quotient_reason (a ∷ b ∷ []) ByZero TooWide h k = absurd (apart_clash k.0 (only_held b h))
quotient_reason (a ∷ b ∷ []) ByZero ByZero h k = refl
quotient_reason (a ∷ b ∷ []) ByZero ZeroInside h k = absurd (k.1 h)
quotient_reason (a ∷ b ∷ []) ZeroInside TooWide h k = absurd (apart_clash k.0 h.0)
quotient_reason (a ∷ b ∷ []) ZeroInside ByZero h k = absurd (h.1 k)
quotient_reason (a ∷ b ∷ []) ZeroInside ZeroInside h k = refl
quotient_reason (a ∷ b ∷ c ∷ cs) p q h k = absurd h

pub refuses_once : (op : Op) (cs : List (Ends Frac)) (p q : Reason) → RefusesInterval op cs p → RefusesInterval op cs q → p ≡ q
refuses_once op cs p q h k = by (is_quotient op) refl
  where
    quotient : (o : Op) → is_quotient o ≡ true → RefusesInterval o cs p → RefusesInterval o cs q → p ≡ q
    quotient ops.Quotient e r s = quotient_reason cs p q r s
    quotient o e r s = absurd (true≢false (sym e))

    by : (b : Bool) → is_quotient op ≡ b → p ≡ q
    by true e = quotient op e h k
    by false e = wide_alone op cs p e h ∙ sym (wide_alone op cs q e k)

-- ---- one judgement

abbrev is_wide : Reason → Bool
is_wide TooWide = true
is_wide ByZero = false
is_wide ZeroInside = false

abbrev is_by_zero : Reason → Bool
is_by_zero TooWide = false
is_by_zero ByZero = true
is_by_zero ZeroInside = false

module _ (table : List Entry) (ranges : List (Ends Frac)) (point : ℕ → ℚ) (inside : IsInside ranges point) (relation : Relation) where
  abbrev HasOne : ℕ → Type 0
  HasOne n = (a : Ends Frac) × HasInterval table ranges n a

  one_root : (n : ℕ) → HasOne n → (k : ℕ) → Contains (n ∷ []) k → HasOne k
  one_root n p k h = elim (cases n k [] h) [ inl e ↦ subst HasOne (sym e) p | inr none ↦ absurd (nowhere k none) ]

  two_roots : (m n : ℕ) → HasOne m → HasOne n → (k : ℕ) → Contains (m ∷ n ∷ []) k → HasOne k
  two_roots m n p q k h = elim (cases m k (n ∷ []) h) [ inl e ↦ subst HasOne (sym e) p | inr more ↦ one_root n q k more ]

  stopped : {p : Reason} → Stops table ranges relation p → ((k : ℕ) → Contains (roots_of relation) k → HasOne k) → ⊥
  stopped s have = stopped_unlabelled (GivesInterval ranges) RefusesInterval table (gives_once ranges) (gives_or_refuses ranges) refuses_once s have

  one_reason : {p q : Reason} → Stops table ranges relation p → Stops table ranges relation q → p ≡ q
  one_reason s t = stop_once (GivesInterval ranges) RefusesInterval table (gives_once ranges) (gives_or_refuses ranges) refuses_once s t

module _ (table : List Entry) (ranges : List (Ends Frac)) (point : ℕ → ℚ) (inside : IsInside ranges point) where
  sure_have : (relation : Relation) → IsSure table ranges relation → (k : ℕ) → Contains (roots_of relation) k → (a : Ends Frac) × HasInterval table ranges k a
  sure_have (relations.Within n target) s = one_root table ranges point inside (relations.Within n target) n (s.0, s.1)
  sure_have (relations.Less m n) s = two_roots table ranges point inside (relations.Less m n) m n (s.0, s.2) (s.1, s.3)
  sure_have (relations.LessEq m n) s = two_roots table ranges point inside (relations.LessEq m n) m n (s.0, s.2) (s.1, s.3)
  sure_have (relations.Equal m n) s = two_roots table ranges point inside (relations.Equal m n) m n (s.0, s.2) (s.1, s.3)
  sure_have (relations.Defined n) s = one_root table ranges point inside (relations.Defined n) n (s.0, s.1)

  denied_have : (relation : Relation) → IsDenied table ranges relation → (k : ℕ) → Contains (roots_of relation) k → (a : Ends Frac) × HasInterval table ranges k a
  denied_have (relations.Within n target) s = one_root table ranges point inside (relations.Within n target) n (s.0, s.1)
  denied_have (relations.Less m n) s = two_roots table ranges point inside (relations.Less m n) m n (s.0, s.2) (s.1, s.3)
  denied_have (relations.LessEq m n) s = two_roots table ranges point inside (relations.LessEq m n) m n (s.0, s.2) (s.1, s.3)
  denied_have (relations.Equal m n) s = two_roots table ranges point inside (relations.Equal m n) m n (s.0, s.2) (s.1, s.3)
  denied_have (relations.Defined n) s = absurd s

  module _ (relation : Relation) where
    stop : {p : Reason} → Stops table ranges relation p → ((k : ℕ) → Contains (roots_of relation) k → (a : Ends Frac) × HasInterval table ranges k a) → ⊥
    stop s have = stopped table ranges point inside relation s have

    differ : {p q : Reason} (test : Reason → Bool) → test p ≡ true → test q ≡ false → Stops table ranges relation p → Stops table ranges relation q → ⊥
    differ test d e s t = true≢false (sym d ∙ ap test (one_reason table ranges point inside relation s t) ∙ e)

    all_have : AllHave table ranges relation → (k : ℕ) → Contains (roots_of relation) k → (a : Ends Frac) × HasInterval table ranges k a
    all_have h k c = let a = h k c in (a.0, a.1)

    true_false : Judges table ranges relation judgements.True → Judges table ranges relation judgements.False → ⊥
    true_false s j = ⊎_elim (λ d. denied_fails ranges point inside table d (sure_holds ranges point inside table relation s)) (λ t. stop t (sure_have relation s)) j

    true_unknown : Judges table ranges relation judgements.True → Judges table ranges relation judgements.Unknown → ⊥
    true_unknown s j = ⊎_elim (λ u. u.1 s) (λ t. stop t (sure_have relation s)) j

    true_wide : Judges table ranges relation judgements.True → Judges table ranges relation judgements.Wide → ⊥
    true_wide s t = stop t (sure_have relation s)

    false_unknown : Judges table ranges relation judgements.False → Judges table ranges relation judgements.Unknown → ⊥
    false_unknown i j =
        ⊎_elim
        (λ d. ⊎_elim (λ u. u.2 d) (λ t. stop t (denied_have relation d)) j)
        (λ t. ⊎_elim (λ u. stop t (all_have u.0)) (λ w. differ is_by_zero refl refl t w) j)
        i

    false_wide : Judges table ranges relation judgements.False → Judges table ranges relation judgements.Wide → ⊥
    false_wide i w = ⊎_elim (λ d. stop w (denied_have relation d)) (λ t. differ is_wide refl refl w t) i

    unknown_wide : Judges table ranges relation judgements.Unknown → Judges table ranges relation judgements.Wide → ⊥
    unknown_wide i w = ⊎_elim (λ u. stop w (all_have u.0)) (λ t. differ is_wide refl refl w t) i

    pub judged_once : (i j : Judgement) → Judges table ranges relation i → Judges table ranges relation j → i ≡ j
    judged_once judgements.True judgements.True h k = refl
    judged_once judgements.True judgements.False h k = absurd (true_false h k)
    judged_once judgements.True judgements.Unknown h k = absurd (true_unknown h k)
    judged_once judgements.True judgements.Wide h k = absurd (true_wide h k)
    judged_once judgements.False judgements.True h k = absurd (true_false k h)
    judged_once judgements.False judgements.False h k = refl
    judged_once judgements.False judgements.Unknown h k = absurd (false_unknown h k)
    judged_once judgements.False judgements.Wide h k = absurd (false_wide h k)
    judged_once judgements.Unknown judgements.True h k = absurd (true_unknown k h)
    judged_once judgements.Unknown judgements.False h k = absurd (false_unknown k h)
    judged_once judgements.Unknown judgements.Unknown h k = refl
    judged_once judgements.Unknown judgements.Wide h k = absurd (unknown_wide h k)
    judged_once judgements.Wide judgements.True h k = absurd (true_wide k h)
    judged_once judgements.Wide judgements.False h k = absurd (false_wide k h)
    judged_once judgements.Wide judgements.Unknown h k = absurd (unknown_wide k h)
    judged_once judgements.Wide judgements.Wide h k = refl
