-- What a node comes to at a point is its value there; where it is undefined, it has none.
use Rattle.std.proofs.Common.{ℕ, zero, suc, List, [], ◌∷◌, refl, ap, sym, ◌∙◌, subst}
use Rattle.std.specs.Prelude.{Contains, Some, None, fold, cond}
use Rattle.std.proofs.lemmas.Option.{none-some, same_Some}
use Rattle.ato_rational.specs.Rational.{ℚ, ◌≈ℚ◌, ◌+ℚ◌, ◌*ℚ◌, ◌/ℚ◌, neg_ℚ, min_ℚ, max_ℚ, abs_ℚ, power_ℚ}
use Rattle.ato_rational.proofs.Order.{≈ℚ_refl, ≈ℚ_sym, ≈ℚ_trans, ≈ℚ-≤ℚ, ≤ℚ_antisymm, +ℚ_same, *ℚ_same, neg_ℚ_same}
use Rattle.ato_rational.proofs.Fields.{inverse_ℚ_same}
use Rattle.ato_rational.proofs.Extremes.{min_ℚ_mono, max_ℚ_mono}
use Rattle.ato_rational.proofs.Quotients.{not_zero_same}
use Rattle.ato_frac.specs.declared.faults.NumFault.TheVariants as faults
use Rattle.ato_frac.specs.declared.fraction.Frac.{Frac}
use Rattle.ato_frac.specs.Fractions.{value_of}
use Rattle.ato_expr.specs.declared.ops.Op.{Op}
use Rattle.ato_expr.specs.declared.ops.Op.TheVariants as ops
use Rattle.ato_expr.specs.declared.point.Point.{Point}
use Rattle.ato_expr.specs.declared.point.Point.TheVariants as points
use Rattle.ato_expr.specs.Chains.{Chains}
use Rattle.ato_expr.specs.Tables.{Entry}
use Rattle.ato_expr.specs.Values.{GivesValue, HasValue}
use Rattle.ato_expr.specs.AtPoint.{IsResult, IsSum, GivesFraction, RefusesFraction, ComesTo, IsWorld, IsRight}
use Rattle.ato_expr.proofs.LabelLaws.{AreRelated, carried, refusal_carried, label_below}
use Rattle.ato_expr.proofs.ValueLaws.{not_zero_told, one_root, zero_told}

abbrev Means : Frac → ℚ → Type 0
Means f x = value_of f ≈ℚ x

pub min_same : {x y z w : ℚ} → x ≈ℚ y → z ≈ℚ w → min_ℚ x z ≈ℚ min_ℚ y w
min_same {x} {y} {z} {w} d e =
    ≤ℚ_antisymm (min_ℚ_mono x y z w (≈ℚ-≤ℚ d) (≈ℚ-≤ℚ e)) (min_ℚ_mono y x w z (≈ℚ-≤ℚ (≈ℚ_sym d)) (≈ℚ-≤ℚ (≈ℚ_sym e)))

pub max_same : {x y z w : ℚ} → x ≈ℚ y → z ≈ℚ w → max_ℚ x z ≈ℚ max_ℚ y w
max_same {x} {y} {z} {w} d e =
    ≤ℚ_antisymm (max_ℚ_mono x y z w (≈ℚ-≤ℚ d) (≈ℚ-≤ℚ e)) (max_ℚ_mono y x w z (≈ℚ-≤ℚ (≈ℚ_sym d)) (≈ℚ-≤ℚ (≈ℚ_sym e)))

pub power_same : {x y : ℚ} (k : ℕ) → x ≈ℚ y → power_ℚ x k ≈ℚ power_ℚ y k
power_same zero e = ≈ℚ_refl _
power_same (suc k) e = *ℚ_same e (power_same k e)

chain_means : (f : ℚ → ℚ → ℚ) (Step : Frac → Frac → Frac → Type 0)
    → ((x y z w : ℚ) → x ≈ℚ y → z ≈ℚ w → f x z ≈ℚ f y w)
    → ((a b r : Frac) → Step a b r → IsResult f a b r)
    → (a : Frac) (bs : List Frac) (r : Frac) (x : ℚ) (ys : List ℚ)
    → Chains Step a bs r → Means a x → AreRelated Means bs ys → Means r (fold f x ys)
chain_means f Step equal is a [] r x [] c w rel = subst (λ e. Means e x) c w
chain_means f Step equal is a [] r x (y ∷ ys) c w rel = absurd rel
chain_means f Step equal is a (b ∷ bs) r x [] c w rel = absurd rel
chain_means f Step equal is a (b ∷ bs) r x (y ∷ ys) c w rel =
    chain_means f Step equal is c.0 bs r (f x y) ys c.2 (≈ℚ_trans (is a b c.0 c.1) (equal _ _ _ _ w rel.0)) rel.1

module _ (world : List Frac) (point : ℕ → ℚ) (is_world : IsWorld world point) where
  step : (op : Op) (fs : List Frac) (r : Frac) (xs : List ℚ) → GivesFraction world op fs r → AreRelated Means fs xs → (x : ℚ) × GivesValue point op xs x × Means r x
  step (ops.Var v) [] r [] g rel = (point v, refl, is_world v r g)
  step (ops.Var v) [] r (x ∷ xs) g rel = absurd rel
  step (ops.Var v) (a ∷ fs) r xs g rel = absurd g
  step (ops.Const q) [] r [] g rel = (value_of q, refl, subst (λ e. value_of e ≈ℚ value_of q) (sym g) (≈ℚ_refl _))
  step (ops.Const q) [] r (x ∷ xs) g rel = absurd rel
  step (ops.Const q) (a ∷ fs) r xs g rel = absurd g
  step ops.Sum [] r xs g rel = absurd g
  step ops.Sum (a ∷ fs) r [] g rel = absurd rel
  step ops.Sum (a ∷ fs) r (x ∷ xs) g rel = (fold ◌+ℚ◌ x xs, refl, chain_means ◌+ℚ◌ IsSum (λ x y z w d e. +ℚ_same d e) (λ c d s h. h.1) a fs r x xs g rel.0 rel.1)
  step ops.Neg [] r xs g rel = absurd g
  step ops.Neg (a ∷ []) r [] g rel = absurd rel
  step ops.Neg (a ∷ []) r (x ∷ []) g rel = (neg_ℚ x, refl, ≈ℚ_trans g (neg_ℚ_same rel.0))
  step ops.Neg (a ∷ []) r (x ∷ y ∷ xs) g rel = absurd rel.1
  step ops.Neg (a ∷ b ∷ fs) r xs g rel = absurd g
  step ops.Product [] r xs g rel = absurd g
  step ops.Product (a ∷ []) r xs g rel = absurd g
  step ops.Product (a ∷ b ∷ []) r [] g rel = absurd rel
  step ops.Product (a ∷ b ∷ []) r (x ∷ []) g rel = absurd rel.1
  step ops.Product (a ∷ b ∷ []) r (x ∷ y ∷ []) g rel = (x *ℚ y, refl, ≈ℚ_trans g.1 (*ℚ_same rel.0 rel.1.0))
  step ops.Product (a ∷ b ∷ []) r (x ∷ y ∷ z ∷ xs) g rel = absurd rel.1.1
  step ops.Product (a ∷ b ∷ c ∷ fs) r xs g rel = absurd g
  step ops.Quotient [] r xs g rel = absurd g
  step ops.Quotient (a ∷ []) r xs g rel = absurd g
  step ops.Quotient (a ∷ b ∷ []) r [] g rel = absurd rel
  step ops.Quotient (a ∷ b ∷ []) r (x ∷ []) g rel = absurd rel.1
  step ops.Quotient (a ∷ b ∷ []) r (x ∷ y ∷ []) g rel = (
    x /ℚ y,
    ap (λ b. cond b None (Some (x /ℚ y))) (not_zero_told (not_zero_same g.0 rel.1.0)),
    ≈ℚ_trans g.2 (*ℚ_same rel.0 (inverse_ℚ_same (value_of b) y g.0 rel.1.0)),
  )
  step ops.Quotient (a ∷ b ∷ []) r (x ∷ y ∷ z ∷ xs) g rel = absurd rel.1.1
  step ops.Quotient (a ∷ b ∷ c ∷ fs) r xs g rel = absurd g
  step (ops.Power k) [] r xs g rel = absurd g
  step (ops.Power k) (a ∷ []) r [] g rel = absurd rel
  step (ops.Power k) (a ∷ []) r (x ∷ []) g rel = (power_ℚ x k, refl, ≈ℚ_trans g.1 (power_same k rel.0))
  step (ops.Power k) (a ∷ []) r (x ∷ y ∷ xs) g rel = absurd rel.1
  step (ops.Power k) (a ∷ b ∷ fs) r xs g rel = absurd g
  step ops.Min [] r xs g rel = absurd g
  step ops.Min (a ∷ fs) r [] g rel = absurd rel
  step ops.Min (a ∷ fs) r (x ∷ xs) g rel = (fold min_ℚ x xs, refl, chain_means min_ℚ (IsResult min_ℚ) (λ x y z w d e. min_same d e) (λ c d s h. h) a fs r x xs g rel.0 rel.1)
  step ops.Max [] r xs g rel = absurd g
  step ops.Max (a ∷ fs) r [] g rel = absurd rel
  step ops.Max (a ∷ fs) r (x ∷ xs) g rel = (fold max_ℚ x xs, refl, chain_means max_ℚ (IsResult max_ℚ) (λ x y z w d e. max_same d e) (λ c d s h. h) a fs r x xs g rel.0 rel.1)
  step ops.Abs [] r xs g rel = absurd g
  step ops.Abs (a ∷ []) r [] g rel = absurd rel
  step ops.Abs (a ∷ []) r (x ∷ []) g rel = (abs_ℚ x, refl, ≈ℚ_trans g.1 (max_same rel.0 (neg_ℚ_same rel.0)))
  step ops.Abs (a ∷ []) r (x ∷ y ∷ xs) g rel = absurd rel.1
  step ops.Abs (a ∷ b ∷ fs) r xs g rel = absurd g

  -- no operation by zero
  no_quotient : (op : Op) (fs : List Frac) (xs : List ℚ) (x : ℚ) → RefusesFraction op fs faults.ByZero → AreRelated Means fs xs → GivesValue point op xs x → ⊥
  no_quotient (ops.Var i) fs xs x r rel v = absurd r
  no_quotient (ops.Const q) fs xs x r rel v = absurd r
  no_quotient ops.Sum [] xs x r rel v = absurd r
  no_quotient ops.Sum (a ∷ fs) xs x r rel v = absurd r
  no_quotient ops.Neg fs xs x r rel v = absurd r
  no_quotient ops.Product [] xs x r rel v = absurd r
  no_quotient ops.Product (a ∷ []) xs x r rel v = absurd r
  no_quotient ops.Product (a ∷ b ∷ []) xs x r rel v = absurd r
  no_quotient ops.Product (a ∷ b ∷ c ∷ fs) xs x r rel v = absurd r
  no_quotient ops.Quotient [] xs x r rel v = absurd r
  no_quotient ops.Quotient (a ∷ []) xs x r rel v = absurd r
  no_quotient ops.Quotient (a ∷ b ∷ []) [] z r rel v = absurd rel
  no_quotient ops.Quotient (a ∷ b ∷ []) (x ∷ []) z r rel v = absurd rel.1
  no_quotient ops.Quotient (a ∷ b ∷ []) (x ∷ y ∷ []) z r rel v =
      none-some z (sym (ap (λ t. cond t None (Some (x /ℚ y))) (zero_told (≈ℚ_trans (≈ℚ_sym rel.1.0) r))) ∙ v)
  no_quotient ops.Quotient (a ∷ b ∷ []) (x ∷ y ∷ w ∷ xs) z r rel v = absurd rel.1.1
  no_quotient ops.Quotient (a ∷ b ∷ c ∷ fs) xs x r rel v = absurd r
  no_quotient (ops.Power k) [] xs x r rel v = absurd r
  no_quotient (ops.Power k) (a ∷ []) xs x r rel v = absurd r
  no_quotient (ops.Power k) (a ∷ b ∷ fs) xs x r rel v = absurd r
  no_quotient ops.Min fs xs x r rel v = absurd r
  no_quotient ops.Max fs xs x r rel v = absurd r
  no_quotient ops.Abs [] xs x r rel v = absurd r
  no_quotient ops.Abs (a ∷ []) xs x r rel v = absurd r
  no_quotient ops.Abs (a ∷ b ∷ fs) xs x r rel v = absurd r

  module _ (table : List Entry) (root : ℕ) where
    pub value_right : (f : Frac) → ComesTo table world root (points.Value f) → (x : ℚ) × HasValue table point root x × Means f x
    value_right f h = carried Means (GivesFraction world) (GivesValue point) table step h

    pub undefined_right : ComesTo table world root points.Undefined → {x : ℚ} → HasValue table point root x → ⊥
    undefined_right s {x} v =
        let only : (k : ℕ) → Contains (root ∷ []) k → (y : ℚ) × HasValue table point k y =
        one_root (λ k. (y : ℚ) × HasValue table point k y) root (x, v)
        in
        refusal_carried Means (GivesFraction world) (GivesValue point) table step RefusesFraction no_quotient (λ op xs y z d e. same_Some y z (sym d ∙ e)) s.1.refused
        (label_below (GivesValue point) table only s.1.below).1

    -- what the node comes to is right at the point
    pub all_right : (p : Point) → ComesTo table world root p → IsRight table point root p
    all_right (points.Value f) h = value_right f h
    all_right points.Undefined h = λ x v. undefined_right h v
    all_right points.Wide h = tt
