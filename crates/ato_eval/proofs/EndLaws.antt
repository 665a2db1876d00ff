-- Which ends of its children's intervals give each end of an operation's interval, where the operation is plain over them.
use Rattle.std.proofs.Common.{◌≡◌, ℕ, zero, suc, ◌%◌, Bool, true, false, List, [], ◌∷◌, refl, ap, sym, subst, ◌⊎◌, inl, inr, ⊎_elim, arith}
use Rattle.std.specs.Prelude.{Some, None, cond, not, fold}
use Rattle.std.proofs.lemmas.Bool.Decides.{eqb_tells}
use Rattle.ato_rational.specs.Rational.{ℚ, ◌≈ℚ◌, ◌≤ℚ◌, ◌+ℚ◌, ◌*ℚ◌, ◌/ℚ◌, neg_ℚ, min_ℚ, max_ℚ, abs_ℚ, power_ℚ, IsNotZero, one_ℚ}
use Rattle.ato_rational.specs.Ranges.{IsAtEnds}
use Rattle.ato_rational.proofs.Order.{≤ℚ_refl, ≤ℚ_trans, ≤ℚ_antisymm, <ℚ-≤ℚ_trans, ≤ℚ-<ℚ_trans, ≈ℚ_refl, ≈ℚ-≤ℚ, ≈ℚ_sym, ≈ℚ_trans, +ℚ_mono, *ℚ_same, neg_ℚ_same, neg_ℚ_anti}
use Rattle.ato_rational.proofs.Fields.{inverse_ℚ_same}
use Rattle.ato_rational.proofs.Extremes.{min_ℚ_mono, max_ℚ_mono}
use Rattle.ato_rational.proofs.Powers.{power_mono}
use Rattle.ato_frac.specs.declared.fraction.Frac.{Frac}
use Rattle.ato_frac.specs.Fractions.{value_of}
use Rattle.ato_interval.specs.Ends.{Ends, Holds, IsProper}
use Rattle.ato_interval.proofs.CornerLaws.{low_corner, high_corner, product_bounds, quotient_bounds}
use Rattle.ato_interval.proofs.FoldLaws.{abs_bowl, even_power_bowl, odd_power_rises}
use Rattle.ato_expr.specs.declared.ops.Op.{Op}
use Rattle.ato_expr.specs.declared.ops.Op.TheVariants as ops
use Rattle.ato_expr.specs.Chains.{Chains}
use Rattle.ato_expr.specs.Values.{op_value}
use Rattle.ato_expr.proofs.AtPointLaws.{power_same, max_same}
use Rattle.ato_expr.proofs.ValueLaws.{not_zero_told}
use Rattle.ato_eval.specs.Intervals.{IsSpan, IsSpanOf, IsSum, GivesInterval}
use Rattle.ato_eval.specs.Plain.{IsOneSided, IsPlainStep}

-- an end by its name
abbrev pub at : Ends Frac → Bool → ℚ
at r true = value_of r.high
at r false = value_of r.low

-- values that are named ends, one by one
abbrev pub AreEnds : List (Ends Frac) → (ℕ → Bool) → List ℚ → Type 0
AreEnds [] pick [] = Unit {0}
AreEnds [] pick (x ∷ xs) = ⊥
AreEnds (c ∷ cs) pick [] = ⊥
AreEnds (c ∷ cs) pick (x ∷ xs) = (x ≈ℚ at c (pick 0)) × AreEnds cs (λ i. pick (suc i)) xs

abbrev pub AreProper : List (Ends Frac) → Type 0
AreProper [] = Unit {0}
AreProper (c ∷ cs) = IsProper value_of c × AreProper cs

low_in : (a : Ends Frac) → IsProper value_of a → Holds value_of a (value_of a.low)
low_in a p = record { above = ≤ℚ_refl _; below = p }

high_in : (a : Ends Frac) → IsProper value_of a → Holds value_of a (value_of a.high)
high_in a p = record { above = p; below = ≤ℚ_refl _ }

end_in : (a : Ends Frac) → IsProper value_of a → (b : Bool) → Holds value_of a (at a b)
end_in a p true = high_in a p
end_in a p false = low_in a p

-- ---- operations that rise in both values

module _ (f : ℚ → ℚ → ℚ) (mono : (x y z w : ℚ) → x ≤ℚ y → z ≤ℚ w → f x z ≤ℚ f y w) where
  respects : {x y z w : ℚ} → x ≈ℚ y → z ≈ℚ w → f x z ≈ℚ f y w
  respects {x} {y} {z} {w} d e = ≤ℚ_antisymm (mono x y z w (≈ℚ-≤ℚ d) (≈ℚ-≤ℚ e)) (mono y x w z (≈ℚ-≤ℚ (≈ℚ_sym d)) (≈ℚ-≤ℚ (≈ℚ_sym e)))

  span_end : (a c r : Ends Frac) → IsProper value_of a → IsProper value_of c → IsSpan f a c r → (b : Bool) → at r b ≈ℚ f (at a b) (at c b)
  span_end a c r p q s true =
      ≤ℚ_antisymm
      (≤ℚ_trans (≈ℚ-≤ℚ s.high_is.same) (mono _ _ _ _ s.high_is.left_in.below s.high_is.right_in.below))
      (s.holds _ _ (high_in a p) (high_in c q)).below
  span_end a c r p q s false =
      ≤ℚ_antisymm
      (s.holds _ _ (low_in a p) (low_in c q)).above
      (≤ℚ_trans (mono _ _ _ _ s.low_is.left_in.above s.low_is.right_in.above) (≈ℚ-≤ℚ (≈ℚ_sym s.low_is.same)))

  span_proper : (a c r : Ends Frac) → IsProper value_of a → IsProper value_of c → IsSpan f a c r → IsProper value_of r
  span_proper a c r p q s = let w = s.holds _ _ (low_in a p) (low_in c q) in ≤ℚ_trans w.above w.below

  chain_end : (Step : Ends Frac → Ends Frac → Ends Frac → Type 0) → ((a c r : Ends Frac) → Step a c r → IsSpan f a c r)
      → (b : Bool) (a : Ends Frac) (cs : List (Ends Frac)) (r : Ends Frac) (x : ℚ) (ys : List ℚ)
      → IsProper value_of a → AreProper cs → Chains Step a cs r → x ≈ℚ at a b → AreEnds cs (λ i. b) ys → fold f x ys ≈ℚ at r b
  chain_end Step span b a [] r x [] p ps c e es = subst (λ k. x ≈ℚ at k b) c e
  chain_end Step span b a [] r x (y ∷ ys) p ps c e es = absurd es
  chain_end Step span b a (d ∷ cs) r x [] p ps c e es = absurd es
  chain_end Step span b a (d ∷ cs) r x (y ∷ ys) p ps c e es =
      let s = span a d c.0 c.1 in
      chain_end Step span b c.0 cs r (f x y) ys (span_proper a d c.0 p ps.0 s) ps.1 c.2
      (≈ℚ_trans (respects e es.0) (≈ℚ_sym (span_end a d c.0 p ps.0 s b))) es.1

-- ---- operations of one value that rise or fall over an interval

module _ (g : ℚ → ℚ) (a r : Ends Frac) (p : IsProper value_of a) (s : IsSpanOf g a r) where
  up_end : ((x y : ℚ) → Holds value_of a x → Holds value_of a y → x ≤ℚ y → g x ≤ℚ g y) → (b : Bool) → at r b ≈ℚ g (at a b)
  up_end mono true =
      ≤ℚ_antisymm (≤ℚ_trans (≈ℚ-≤ℚ s.high_is.same) (mono _ _ s.high_is.argument_in (high_in a p) s.high_is.argument_in.below)) (s.holds _ (high_in a p)).below
  up_end mono false =
      ≤ℚ_antisymm (s.holds _ (low_in a p)).above (≤ℚ_trans (mono _ _ (low_in a p) s.low_is.argument_in s.low_is.argument_in.above) (≈ℚ-≤ℚ (≈ℚ_sym s.low_is.same)))

  down_end : ((x y : ℚ) → Holds value_of a x → Holds value_of a y → x ≤ℚ y → g y ≤ℚ g x) → (b : Bool) → at r b ≈ℚ g (at a (not b))
  down_end anti true =
      ≤ℚ_antisymm (≤ℚ_trans (≈ℚ-≤ℚ s.high_is.same) (anti _ _ (low_in a p) s.high_is.argument_in s.high_is.argument_in.above)) (s.holds _ (low_in a p)).below
  down_end anti false =
      ≤ℚ_antisymm (s.holds _ (high_in a p)).above (≤ℚ_trans (anti _ _ s.low_is.argument_in (high_in a p) s.low_is.argument_in.below) (≈ℚ-≤ℚ (≈ℚ_sym s.low_is.same)))

  -- over an interval on one side of 0 it rises or falls
  one_end : ((x y : ℚ) → Holds value_of a x → Holds value_of a y → x ≤ℚ y → g x ≤ℚ g y) ⊎ ((x y : ℚ) → Holds value_of a x → Holds value_of a y → x ≤ℚ y → g y ≤ℚ g x)
      → (b : Bool) → (c : Bool) × (at r b ≈ℚ g (at a c))
  one_end way b = ⊎_elim (λ m. (b, up_end m b)) (λ m. (not b, down_end m b)) way

-- ---- four pairs of ends

pair_end : (f : ℚ → ℚ → ℚ) (a c : Ends Frac) (z : ℚ) → IsAtEnds f (value_of a.low) (value_of a.high) (value_of c.low) (value_of c.high) z
    → (i : Bool) × (j : Bool) × (z ≈ℚ f (at a i) (at c j))
pair_end f a c z h =
    ⊎_elim
    (⊎_elim (λ e. (false, false, e)) (λ e. (false, true, e)))
    (⊎_elim (λ e. (true, false, e)) (λ e. (true, true, e)))
    h

abbrev pub pair : Bool → Bool → ℕ → Bool
pair i j zero = i
pair i j (suc k) = j

-- ---- which ends to take

abbrev pub IsAtVariable : Op → (ℕ → ℚ) → ℚ → Type 0
IsAtVariable (ops.Var v) point e = point v ≈ℚ e
IsAtVariable op point e = Unit {0}

pub record Choice (op : Op) (cs : List (Ends Frac)) (e : ℚ) : Type 0 where
  pub pick : ℕ → Bool
  pub works : (point : ℕ → ℚ) (xs : List ℚ) → AreEnds cs pick xs → IsAtVariable op point e → (x : ℚ) × (op_value point op xs ≡ Some x) × (x ≈ℚ e)

one_value : (op : Op) (g : ℚ → ℚ) (a : Ends Frac) (e : ℚ) (c : Bool) → ((point : ℕ → ℚ) (x : ℚ) → op_value point op (x ∷ []) ≡ Some (g x))
    → ((x y : ℚ) → x ≈ℚ y → g x ≈ℚ g y) → e ≈ℚ g (at a c) → Choice op (a ∷ []) e
one_value op g a e c gives same is = record { pick = λ i. c; works = λ point xs es v. works point xs es }
  where
    works : (point : ℕ → ℚ) (xs : List ℚ) → AreEnds (a ∷ []) (λ i. c) xs → (x : ℚ) × (op_value point op xs ≡ Some x) × (x ≈ℚ e)
    works point [] es = absurd es
    works point (x ∷ []) es = (g x, gives point x, ≈ℚ_trans (same x (at a c) es.0) (≈ℚ_sym is))
    works point (x ∷ y ∷ xs) es = absurd es.1

two_values : (op : Op) (f : ℚ → ℚ → ℚ) (a c : Ends Frac) (e : ℚ) (i j : Bool)
    → ((point : ℕ → ℚ) (x y : ℚ) → x ≈ℚ at a i → y ≈ℚ at c j → (op_value point op (x ∷ y ∷ []) ≡ Some (f x y)) × (f x y ≈ℚ f (at a i) (at c j)))
    → e ≈ℚ f (at a i) (at c j) → Choice op (a ∷ c ∷ []) e
two_values op f a c e i j gives is = record { pick = pair i j; works = λ point xs es v. works point xs es }
  where
    works : (point : ℕ → ℚ) (xs : List ℚ) → AreEnds (a ∷ c ∷ []) (pair i j) xs → (x : ℚ) × (op_value point op xs ≡ Some x) × (x ≈ℚ e)
    works point [] es = absurd es
    works point (x ∷ []) es = absurd es.1
    works point (x ∷ y ∷ []) es = let own = gives point x y es.0 es.1.0 in (f x y, own.0, ≈ℚ_trans own.1 (≈ℚ_sym is))
    works point (x ∷ y ∷ z ∷ xs) es = absurd es.1.1

chain_values : (op : Op) (f : ℚ → ℚ → ℚ) → ((x y z w : ℚ) → x ≤ℚ y → z ≤ℚ w → f x z ≤ℚ f y w)
    → (Step : Ends Frac → Ends Frac → Ends Frac → Type 0) → ((a c r : Ends Frac) → Step a c r → IsSpan f a c r)
    → ((point : ℕ → ℚ) (x : ℚ) (xs : List ℚ) → op_value point op (x ∷ xs) ≡ Some (fold f x xs))
    → (a : Ends Frac) (cs : List (Ends Frac)) (r : Ends Frac) (b : Bool) → IsProper value_of a → AreProper cs → Chains Step a cs r → Choice op (a ∷ cs) (at r b)
chain_values op f mono Step span gives a cs r b p ps c = record { pick = λ i. b; works = λ point xs es v. works point xs es }
  where
    works : (point : ℕ → ℚ) (xs : List ℚ) → AreEnds (a ∷ cs) (λ i. b) xs → (x : ℚ) × (op_value point op xs ≡ Some x) × (x ≈ℚ at r b)
    works point [] es = absurd es
    works point (x ∷ xs) es = (fold f x xs, gives point x xs, chain_end f mono Step span b a cs r x xs p ps c es.0 es.1)

end_of_pair : (f : ℚ → ℚ → ℚ) (a c r : Ends Frac) → IsAtEnds f (value_of a.low) (value_of a.high) (value_of c.low) (value_of c.high) (value_of r.low)
    → IsAtEnds f (value_of a.low) (value_of a.high) (value_of c.low) (value_of c.high) (value_of r.high) → (b : Bool)
    → (i : Bool) × (j : Bool) × (at r b ≈ℚ f (at a i) (at c j))
end_of_pair f a c r l h true = pair_end f a c (value_of r.high) h
end_of_pair f a c r l h false = pair_end f a c (value_of r.low) l

power_way : (a : Ends Frac) (k : ℕ) → IsOneSided a
    → ((x y : ℚ) → Holds value_of a x → Holds value_of a y → x ≤ℚ y → power_ℚ x k ≤ℚ power_ℚ y k)
    ⊎ ((x y : ℚ) → Holds value_of a x → Holds value_of a y → x ≤ℚ y → power_ℚ y k ≤ℚ power_ℚ x k)
power_way a k (inl n) = inl (λ x y v w h. power_mono x y k (≤ℚ_trans n v.above) h)
power_way a zero (inr n) = inl (λ x y v w h. ≤ℚ_refl one_ℚ)
power_way a (suc k) (inr n) =
    ⊎_elim
    (λ t. inr (λ x y v w h. (even_power_bowl (suc k) (omega arith) t.1).falls x y h (≤ℚ_trans w.below n)))
    (λ t. inl (λ x y v w h. odd_power_rises (suc k) t.1 x y h))
    (eqb_tells (suc k % 2) 0)

abs_way : (a : Ends Frac) → IsOneSided a
    → ((x y : ℚ) → Holds value_of a x → Holds value_of a y → x ≤ℚ y → abs_ℚ x ≤ℚ abs_ℚ y)
    ⊎ ((x y : ℚ) → Holds value_of a x → Holds value_of a y → x ≤ℚ y → abs_ℚ y ≤ℚ abs_ℚ x)
abs_way a (inl n) = inl (λ x y v w h. abs_bowl.rises x y (≤ℚ_trans n v.above) h)
abs_way a (inr n) = inr (λ x y v w h. abs_bowl.falls x y h (≤ℚ_trans w.below n))

pub choose : (ranges : List (Ends Frac)) (op : Op) (cs : List (Ends Frac)) (r : Ends Frac) → GivesInterval ranges op cs r → AreProper cs → IsPlainStep op cs → (b : Bool) → Choice op cs (at r b)
choose ranges (ops.Var v) [] r g ps plain b = record { pick = λ i. b; works = λ point xs es is. works point xs es is }
  where
    works : (point : ℕ → ℚ) (xs : List ℚ) → AreEnds [] (λ i. b) xs → point v ≈ℚ at r b → (x : ℚ) × (op_value point (ops.Var v) xs ≡ Some x) × (x ≈ℚ at r b)
    works point [] es is = (point v, refl, is)
    works point (x ∷ xs) es is = absurd es
choose ranges (ops.Var v) (a ∷ cs) r g ps plain b = absurd g
choose ranges (ops.Const q) [] r g ps plain b = record { pick = λ i. b; works = λ point xs es is. works point xs es b }
  where
    works : (point : ℕ → ℚ) (xs : List ℚ) → AreEnds [] (λ i. b) xs → (c : Bool) → (x : ℚ) × (op_value point (ops.Const q) xs ≡ Some x) × (x ≈ℚ at r c)
    works point [] es true = (value_of q, refl, subst (λ t. value_of q ≈ℚ value_of t) (sym g.1) (≈ℚ_refl _))
    works point [] es false = (value_of q, refl, subst (λ t. value_of q ≈ℚ value_of t) (sym g.0) (≈ℚ_refl _))
    works point (x ∷ xs) es c = absurd es
choose ranges (ops.Const q) (a ∷ cs) r g ps plain b = absurd g
choose ranges ops.Sum [] r g ps plain b = absurd g
choose ranges ops.Sum (a ∷ cs) r g ps plain b = chain_values ops.Sum ◌+ℚ◌ (λ x y z w h k. +ℚ_mono h k) IsSum (λ c d s h. h.1) (λ point x xs. refl) a cs r b ps.0 ps.1 g
choose ranges ops.Neg [] r g ps plain b = absurd g
choose ranges ops.Neg (a ∷ []) r g ps plain b =
    one_value ops.Neg neg_ℚ a (at r b) (not b) (λ point x. refl) (λ x y e. neg_ℚ_same e) (down_end neg_ℚ a r ps.0 g (λ x y v w h. neg_ℚ_anti h) b)
choose ranges ops.Neg (a ∷ c ∷ cs) r g ps plain b = absurd g
choose ranges ops.Product [] r g ps plain b = absurd g
choose ranges ops.Product (a ∷ []) r g ps plain b = absurd g
choose ranges ops.Product (a ∷ c ∷ []) r g ps plain b =
    let bounds = product_bounds (value_of a.low) (value_of a.high) (value_of c.low) (value_of c.high) in
    let ends = end_of_pair ◌*ℚ◌ a c r (low_corner value_of ◌*ℚ◌ a c r ps.0 ps.1.0 bounds g.1.holds g.1.low_is) (high_corner value_of ◌*ℚ◌ a c r ps.0 ps.1.0 bounds g.1.holds g.1.high_is) b in
    two_values ops.Product ◌*ℚ◌ a c (at r b) ends.0 ends.1 (λ point x y d e. (refl, *ℚ_same d e)) ends.2
choose ranges ops.Product (a ∷ c ∷ d ∷ cs) r g ps plain b = absurd g
choose ranges ops.Quotient [] r g ps plain b = absurd g
choose ranges ops.Quotient (a ∷ []) r g ps plain b = absurd g
choose ranges ops.Quotient (a ∷ c ∷ []) r g ps plain b =
    let bounds = quotient_bounds (value_of a.low) (value_of a.high) (value_of c.low) (value_of c.high) plain in
    let ends = end_of_pair ◌/ℚ◌ a c r (low_corner value_of ◌/ℚ◌ a c r ps.0 ps.1.0 bounds g.2.holds g.2.low_is) (high_corner value_of ◌/ℚ◌ a c r ps.0 ps.1.0 bounds g.2.holds g.2.high_is) b in
    let end_held = end_in c ps.1.0 ends.1 in
    let not_zero : (y : ℚ) → y ≈ℚ at c ends.1 → IsNotZero y =
    λ y e. ⊎_elim (λ p. inl (<ℚ-≤ℚ_trans p (≤ℚ_trans end_held.above (≈ℚ-≤ℚ (≈ℚ_sym e))))) (λ p. inr (≤ℚ-<ℚ_trans (≤ℚ_trans (≈ℚ-≤ℚ e) end_held.below) p)) plain
    in
    two_values ops.Quotient ◌/ℚ◌ a c (at r b) ends.0 ends.1
    (λ point x y d e. (ap (λ t. cond t None (Some (x /ℚ y))) (not_zero_told (not_zero y e)), *ℚ_same d (inverse_ℚ_same y (at c ends.1) (not_zero y e) e)))
    ends.2
choose ranges ops.Quotient (a ∷ c ∷ d ∷ cs) r g ps plain b = absurd g
choose ranges (ops.Power k) [] r g ps plain b = absurd g
choose ranges (ops.Power k) (a ∷ []) r g ps plain b =
    let own = one_end (λ x. power_ℚ x k) a r ps.0 g.2 (power_way a k plain) b in
    one_value (ops.Power k) (λ x. power_ℚ x k) a (at r b) own.0 (λ point x. refl) (λ x y e. power_same k e) own.1
choose ranges (ops.Power k) (a ∷ c ∷ cs) r g ps plain b = absurd g
choose ranges ops.Min [] r g ps plain b = absurd g
choose ranges ops.Min (a ∷ cs) r g ps plain b = chain_values ops.Min min_ℚ (λ x y z w h k. min_ℚ_mono x y z w h k) (IsSpan min_ℚ) (λ c d s h. h) (λ point x xs. refl) a cs r b ps.0 ps.1 g
choose ranges ops.Max [] r g ps plain b = absurd g
choose ranges ops.Max (a ∷ cs) r g ps plain b = chain_values ops.Max max_ℚ (λ x y z w h k. max_ℚ_mono x y z w h k) (IsSpan max_ℚ) (λ c d s h. h) (λ point x xs. refl) a cs r b ps.0 ps.1 g
choose ranges ops.Abs [] r g ps plain b = absurd g
choose ranges ops.Abs (a ∷ []) r g ps plain b =
    let own = one_end abs_ℚ a r ps.0 g.2 (abs_way a plain) b in
    one_value ops.Abs abs_ℚ a (at r b) own.0 (λ point x. refl) (λ x y e. max_same e (neg_ℚ_same e)) own.1
choose ranges ops.Abs (a ∷ c ∷ cs) r g ps plain b = absurd g
