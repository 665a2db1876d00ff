-- An interval of a node holds its value at every point of the ranges, and so judgements are right at every point.
use Rattle.std.proofs.Common.{◌≡◌, ℕ, true, List, [], ◌∷◌, refl, ap, sym, ◌∙◌, subst, inl, inr, ⊎_elim}
use Rattle.std.specs.Prelude.{Some, None, fold, cond}
use Rattle.std.proofs.lemmas.Option.{none-some, same_Some}
use Rattle.ato_rational.specs.Rational.{ℚ, ◌≤ℚ◌, ◌+ℚ◌, ◌*ℚ◌, ◌/ℚ◌, neg_ℚ, min_ℚ, max_ℚ, abs_ℚ, power_ℚ, IsNotZero}
use Rattle.ato_rational.specs.Ranges.{IsWithin, IsApartFromZero}
use Rattle.ato_rational.proofs.Order.{≤ℚ_refl, ≤ℚ_trans, ≤ℚ_antisymm, ≤ℚ-<ℚ_trans, <ℚ-≤ℚ_trans, ≈ℚ-≤ℚ, ≈ℚ_sym, clash_ℚ, IsWithin-same}
use Rattle.ato_frac.specs.declared.fraction.Frac.{Frac}
use Rattle.ato_frac.specs.Fractions.{value_of}
use Rattle.ato_interval.specs.Ends.{Ends, Holds}
use Rattle.ato_interval.specs.Points.{IsOnlyZero}
use Rattle.ato_interval.specs.Results.{HoldsResults}
use Rattle.ato_expr.specs.declared.ops.Op.{Op}
use Rattle.ato_expr.specs.declared.ops.Op.TheVariants as ops
use Rattle.ato_expr.specs.Tables.{Entry}
use Rattle.ato_expr.specs.declared.ops.Relation.{Relation}
use Rattle.ato_expr.specs.declared.ops.Relation.TheVariants as relations
use Rattle.ato_expr.specs.Chains.{Chains}
use Rattle.ato_expr.specs.Values.{op_value, is_zero, GivesValue, HasValue, HoldsAt, within, less, at_most, equal, there}
use Rattle.ato_expr.proofs.LabelLaws.{AreRelated, carried, refusal_carried}
use Rattle.ato_expr.proofs.ValueLaws.{value_once, valued_below, not_zero_told, zero_told}
use Rattle.ato_eval.specs.declared.judgement.Judgement.TheVariants as judgements
use Rattle.ato_eval.specs.declared.reason.Reason.TheVariants.{ByZero}
use Rattle.ato_eval.specs.Intervals.{IsSpan, IsSum, GivesInterval, RefusesInterval}
use Rattle.ato_eval.specs.Judgements.{IsInside, HasInterval, Stops, IsSure, IsDenied, Judges}

-- the interval holds the value
abbrev pub IsHeld : Ends Frac → ℚ → Type 0
IsHeld a x = Holds value_of a x

-- a chain of steps that each hold every result holds the result
chain_held : (f : ℚ → ℚ → ℚ) (Step : Ends Frac → Ends Frac → Ends Frac → Type 0)
    → ((a b r : Ends Frac) → Step a b r → HoldsResults value_of f a b r)
    → (a : Ends Frac) (bs : List (Ends Frac)) (r : Ends Frac) (x : ℚ) (ys : List ℚ)
    → Chains Step a bs r → IsHeld a x → AreRelated IsHeld bs ys → IsHeld r (fold f x ys)
chain_held f Step holds a [] r x [] c w rel = subst (λ e. IsHeld e x) c w
chain_held f Step holds a [] r x (y ∷ ys) c w rel = absurd rel
chain_held f Step holds a (b ∷ bs) r x [] c w rel = absurd rel
chain_held f Step holds a (b ∷ bs) r x (y ∷ ys) c w rel =
    chain_held f Step holds c.0 bs r (f x y) ys c.2 (holds a b c.0 c.1 x y w rel.0) rel.1

pub divisor_not_zero : {c d y : ℚ} → IsApartFromZero c d → IsWithin c d y → IsNotZero y
divisor_not_zero (inl p) w = inl (<ℚ-≤ℚ_trans p w.above)
divisor_not_zero (inr p) w = inr (≤ℚ-<ℚ_trans w.below p)

quotient_there : (point : ℕ → ℚ) (x y : ℚ) → IsNotZero y → op_value point ops.Quotient (x ∷ y ∷ []) ≡ Some (x /ℚ y)
quotient_there point x y h = ap (λ b. cond b None (Some (x /ℚ y))) (not_zero_told h)

-- what an interval of 0 alone holds is 0
zero_seen : (b : Ends Frac) {y : ℚ} → IsOnlyZero value_of b → IsHeld b y → is_zero y.num ≡ true
zero_seen b {y} only w = zero_told (≤ℚ_antisymm (≤ℚ_trans w.below (≈ℚ-≤ℚ only.1)) (≤ℚ_trans (≈ℚ-≤ℚ (≈ℚ_sym only.0)) w.above))

module _ (ranges : List (Ends Frac)) (point : ℕ → ℚ) (inside : IsInside ranges point) where
  pub step : (op : Op) (cs : List (Ends Frac)) (r : Ends Frac) (xs : List ℚ) → GivesInterval ranges op cs r → AreRelated IsHeld cs xs
      → (x : ℚ) × GivesValue point op xs x × IsHeld r x
  step (ops.Var v) [] r [] g rel = (point v, refl, inside v r g)
  step (ops.Var v) [] r (x ∷ xs) g rel = absurd rel
  step (ops.Var v) (a ∷ cs) r xs g rel = absurd g
  step (ops.Const q) [] r [] g rel =
      (value_of q, refl, record { above = subst (λ e. value_of e ≤ℚ value_of q) (sym g.0) (≤ℚ_refl _); below = subst (λ e. value_of q ≤ℚ value_of e) (sym g.1) (≤ℚ_refl _) })
  step (ops.Const q) [] r (x ∷ xs) g rel = absurd rel
  step (ops.Const q) (a ∷ cs) r xs g rel = absurd g
  step ops.Sum [] r xs g rel = absurd g
  step ops.Sum (a ∷ cs) r [] g rel = absurd rel
  step ops.Sum (a ∷ cs) r (x ∷ xs) g rel =
      (fold ◌+ℚ◌ x xs, refl, chain_held ◌+ℚ◌ IsSum (λ c d s h. h.1.holds) a cs r x xs g rel.0 rel.1)
  step ops.Neg [] r xs g rel = absurd g
  step ops.Neg (a ∷ []) r [] g rel = absurd rel
  step ops.Neg (a ∷ []) r (x ∷ []) g rel = (neg_ℚ x, refl, g.holds x rel.0)
  step ops.Neg (a ∷ []) r (x ∷ y ∷ xs) g rel = absurd rel.1
  step ops.Neg (a ∷ b ∷ cs) r xs g rel = absurd g
  step ops.Product [] r xs g rel = absurd g
  step ops.Product (a ∷ []) r xs g rel = absurd g
  step ops.Product (a ∷ b ∷ []) r [] g rel = absurd rel
  step ops.Product (a ∷ b ∷ []) r (x ∷ []) g rel = absurd rel.1
  step ops.Product (a ∷ b ∷ []) r (x ∷ y ∷ []) g rel = (x *ℚ y, refl, g.1.holds x y rel.0 rel.1.0)
  step ops.Product (a ∷ b ∷ []) r (x ∷ y ∷ z ∷ xs) g rel = absurd rel.1.1
  step ops.Product (a ∷ b ∷ c ∷ cs) r xs g rel = absurd g
  step ops.Quotient [] r xs g rel = absurd g
  step ops.Quotient (a ∷ []) r xs g rel = absurd g
  step ops.Quotient (a ∷ b ∷ []) r [] g rel = absurd rel
  step ops.Quotient (a ∷ b ∷ []) r (x ∷ []) g rel = absurd rel.1
  step ops.Quotient (a ∷ b ∷ []) r (x ∷ y ∷ []) g rel =
      (x /ℚ y, quotient_there point x y (divisor_not_zero g.0 rel.1.0), g.2.holds x y rel.0 rel.1.0)
  step ops.Quotient (a ∷ b ∷ []) r (x ∷ y ∷ z ∷ xs) g rel = absurd rel.1.1
  step ops.Quotient (a ∷ b ∷ c ∷ cs) r xs g rel = absurd g
  step (ops.Power k) [] r xs g rel = absurd g
  step (ops.Power k) (a ∷ []) r [] g rel = absurd rel
  step (ops.Power k) (a ∷ []) r (x ∷ []) g rel = (power_ℚ x k, refl, g.2.holds x rel.0)
  step (ops.Power k) (a ∷ []) r (x ∷ y ∷ xs) g rel = absurd rel.1
  step (ops.Power k) (a ∷ b ∷ cs) r xs g rel = absurd g
  step ops.Min [] r xs g rel = absurd g
  step ops.Min (a ∷ cs) r [] g rel = absurd rel
  step ops.Min (a ∷ cs) r (x ∷ xs) g rel =
      (fold min_ℚ x xs, refl, chain_held min_ℚ (IsSpan min_ℚ) (λ c d s h. h.holds) a cs r x xs g rel.0 rel.1)
  step ops.Max [] r xs g rel = absurd g
  step ops.Max (a ∷ cs) r [] g rel = absurd rel
  step ops.Max (a ∷ cs) r (x ∷ xs) g rel =
      (fold max_ℚ x xs, refl, chain_held max_ℚ (IsSpan max_ℚ) (λ c d s h. h.holds) a cs r x xs g rel.0 rel.1)
  step ops.Abs [] r xs g rel = absurd g
  step ops.Abs (a ∷ []) r [] g rel = absurd rel
  step ops.Abs (a ∷ []) r (x ∷ []) g rel = (abs_ℚ x, refl, g.2.holds x rel.0)
  step ops.Abs (a ∷ []) r (x ∷ y ∷ xs) g rel = absurd rel.1
  step ops.Abs (a ∷ b ∷ cs) r xs g rel = absurd g

  module _ (table : List Entry) where
    -- a node with an interval has a value at the point, and the interval holds it
    pub enclosed : {n : ℕ} {a : Ends Frac} → HasInterval table ranges n a → (x : ℚ) × HasValue table point n x × IsHeld a x
    enclosed have = carried IsHeld (GivesInterval ranges) (GivesValue point) table step have

    pub value_held : {n : ℕ} {a : Ends Frac} {x : ℚ} → HasInterval table ranges n a → HasValue table point n x → IsHeld a x
    value_held {n} {a} {x} have v =
        let own = enclosed have in
        subst (IsHeld a) (value_once table point own.1 v) own.2

    -- what is judged true holds
    pub sure_holds : (relation : Relation) → IsSure table ranges relation → HoldsAt table point relation
    sure_holds (relations.Within n target) s =
        let x = enclosed s.1 in
        within x.0 x.1 (s.2 x.0 x.2)
    sure_holds (relations.Less m n) s =
        let x = enclosed s.2 in
        let y = enclosed s.3 in
        less x.0 y.0 x.1 y.1 (≤ℚ-<ℚ_trans x.2.below (<ℚ-≤ℚ_trans s.4 y.2.above))
    sure_holds (relations.LessEq m n) s =
        let x = enclosed s.2 in
        let y = enclosed s.3 in
        at_most x.0 y.0 x.1 y.1 (≤ℚ_trans x.2.below (≤ℚ_trans s.4 y.2.above))
    sure_holds (relations.Equal m n) s =
        let x = enclosed s.2 in
        let y = enclosed s.3 in
        equal x.0 y.0 x.1 y.1
        (≤ℚ_antisymm (≤ℚ_trans x.2.below (≤ℚ_trans (≈ℚ-≤ℚ s.4.1) y.2.above))
        (≤ℚ_trans y.2.below (≤ℚ_trans (≈ℚ-≤ℚ (≈ℚ_sym s.4.2)) (≤ℚ_trans (≈ℚ-≤ℚ (≈ℚ_sym s.4.1)) (≤ℚ_trans (≈ℚ-≤ℚ (≈ℚ_sym s.4.0)) x.2.above)))))
    sure_holds (relations.Defined n) s =
        let x = enclosed s.1 in
        there x.0 x.1

    -- what is denied fails
    pub denied_fails : {relation : Relation} → IsDenied table ranges relation → HoldsAt table point relation → ⊥
    denied_fails d (within x v inside) = d.2 x (value_held d.1 v) inside
    denied_fails d (less x y v w h) = clash_ℚ h (≤ℚ_trans (value_held d.3 w).below (≤ℚ_trans d.4 (value_held d.2 v).above))
    denied_fails d (at_most x y v w h) = clash_ℚ (≤ℚ-<ℚ_trans (value_held d.3 w).below (<ℚ-≤ℚ_trans d.4 (value_held d.2 v).above)) h
    denied_fails d (equal x y v w h) = d.4 y (IsWithin-same h (value_held d.2 v)) (value_held d.3 w)
    denied_fails d (there x v) = d

    -- a relation below whose sides something is divided by 0 alone fails
    no_quotient : (op : Op) (cs : List (Ends Frac)) (xs : List ℚ) (x : ℚ) → RefusesInterval op cs ByZero → AreRelated IsHeld cs xs → GivesValue point op xs x → ⊥
    no_quotient (ops.Var i) cs xs x r rel v = absurd r
    no_quotient (ops.Const q) cs xs x r rel v = absurd r
    no_quotient ops.Sum [] xs x r rel v = absurd r
    no_quotient ops.Sum (a ∷ cs) xs x r rel v = absurd r
    no_quotient ops.Neg cs xs x r rel v = absurd r
    no_quotient ops.Product [] xs x r rel v = absurd r
    no_quotient ops.Product (a ∷ []) xs x r rel v = absurd r
    no_quotient ops.Product (a ∷ b ∷ []) xs x r rel v = absurd r
    no_quotient ops.Product (a ∷ b ∷ c ∷ cs) xs x r rel v = absurd r
    no_quotient ops.Quotient [] xs x r rel v = absurd r
    no_quotient ops.Quotient (a ∷ []) xs x r rel v = absurd r
    no_quotient ops.Quotient (a ∷ b ∷ []) [] z r rel v = absurd rel
    no_quotient ops.Quotient (a ∷ b ∷ []) (x ∷ []) z r rel v = absurd rel.1
    no_quotient ops.Quotient (a ∷ b ∷ []) (x ∷ y ∷ []) z r rel v =
        none-some z (sym (ap (λ t. cond t None (Some (x /ℚ y))) (zero_seen b r rel.1.0)) ∙ v)
    no_quotient ops.Quotient (a ∷ b ∷ []) (x ∷ y ∷ w ∷ xs) z r rel v = absurd rel.1.1
    no_quotient ops.Quotient (a ∷ b ∷ c ∷ cs) xs x r rel v = absurd r
    no_quotient (ops.Power k) [] xs x r rel v = absurd r
    no_quotient (ops.Power k) (a ∷ []) xs x r rel v = absurd r
    no_quotient (ops.Power k) (a ∷ b ∷ cs) xs x r rel v = absurd r
    no_quotient ops.Min cs xs x r rel v = absurd r
    no_quotient ops.Max cs xs x r rel v = absurd r
    no_quotient ops.Abs [] xs x r rel v = absurd r
    no_quotient ops.Abs (a ∷ []) xs x r rel v = absurd r
    no_quotient ops.Abs (a ∷ b ∷ cs) xs x r rel v = absurd r

    pub stopped_fails : {relation : Relation} → Stops table ranges relation ByZero → HoldsAt table point relation → ⊥
    stopped_fails s holds =
        refusal_carried IsHeld (GivesInterval ranges) (GivesValue point) table step RefusesInterval no_quotient (λ op xs x y d e. same_Some x y (sym d ∙ e)) s.1.refused
        (valued_below table point holds s.1.below).1

    -- True holds at the point, and False fails there
    pub judged_true : (relation : Relation) → Judges table ranges relation judgements.True → HoldsAt table point relation
    judged_true relation s = sure_holds relation s

    pub judged_false : (relation : Relation) → Judges table ranges relation judgements.False → HoldsAt table point relation → ⊥
    judged_false relation j holds = ⊎_elim (λ d. denied_fails d holds) (λ s. stopped_fails s holds) j
